-- A turn lists some of what is left.
use Rattle.std.proofs.Common.{◌++◌}
use Rattle.bits.proofs.Memory.{lent_part}
use Rattle.lister.specs.Waits.{waits}
use Rattle.lister.proofs.Flow.{answers_left, passes_both}
use Rattle.lister.proofs.Output.list_part.Goals as goal

pub loop-left-preserved : goal.loop-left-preserved
loop-left-preserved g c =
    let so_far = c.loop-left.invariant in
    let more = c.in_ok-taken.ensures in
    record {
      text = so_far.text ++ more.text;
      answers = rw lent_part (answers_left so_far.answers more.answers);
      passes = passes_both {x = waits c.list_some.new.self} so_far.passes more.passes;
    }
