-- Where a word is due, the window is that of the string that is left. Where a turned word is due, each way is by what
-- the windows hold.
use Rattle.std.specs.Prelude.{refl, false, drop}
use Rattle.std.proofs.Common.{sym, ◌∙◌}
use Rattle.blocks.specs.Blocks.{bits_of_block}
use Rattle.blocks.proofs.Laws.{block-length}
use Rattle.scan.specs.declared.Kind.TheVariants.{Word}
use Rattle.scan.proofs.Taking.{taken_at_lem}
use Rattle.scan.proofs.Ended.{word_there, end_there, long_there, end_behind}
use Rattle.scan.proofs.take.Goals as goal

pub returns-in-Word : goal.returns-in-Word
returns-in-Word c =
    let b = bits_of_block c.args.b in
    let first = sym c.window-w.ensures in
    c.word.ensures false (drop c.args.place.used b) refl first ∙ taken_at_lem b c.args.place Word c.in-Word.is

pub returns-in-Turned : goal.returns-in-Turned
returns-in-Turned c =
    let whole = block-length c.args.b in
    word_there _ whole c.args.place c.in-Turned.is c.window-w.ensures c.if-w-ne0.true c.word-in-Turned.ensures

pub returns-in-Turned-2 : goal.returns-in-Turned-2
returns-in-Turned-2 c =
    let whole = block-length c.args.b in
    long_there _ whole c.args.place c.in-Turned.is c.window-w.ensures c.if-w-ne0.false c.window.ensures
    c.if-window-ne0.true

pub returns-in-Turned-3 : goal.returns-in-Turned-3
returns-in-Turned-3 c =
    let whole = block-length c.args.b in
    end_behind _ whole c.args.place c.in-Turned.is c.window-w.ensures c.if-w-ne0.false c.window.ensures
    c.if-window-ne0.false

pub returns-in-Turned-3-2 : goal.returns-in-Turned-3-2
returns-in-Turned-3-2 c =
    let whole = block-length c.args.b in
    end_there _ whole c.args.place c.in-Turned.is c.window-w.ensures c.if-w-ne0.false c.if-used-lt32.false
