-- Each kind's word is taken from the text behind the characters used.
use Rattle.std.proofs.Common.{◌∙◌, sym, ap}
use Rattle.scan.specs.Taking.{is_turned}
use Rattle.scan.proofs.Characters.{taken-lent}
use Rattle.scan.proofs.take_text.Goals as goal

pub returns-in-Word : goal.returns-in-Word
returns-in-Word c =
    c.word.ensures ∙ taken-lent c.args.k.now c.args.place _ (sym (ap is_turned c.in-Word.is)) c.min.ensures

pub returns-in-Turned : goal.returns-in-Turned
returns-in-Turned c =
    c.word-in-Turned.ensures ∙ taken-lent c.args.k.now c.args.place _ (sym (ap is_turned c.in-Turned.is)) c.min.ensures
