-- The invariant: what is left of the stretch goes on behind what was written. The measure is what is left of the input.
use Rattle.std.proofs.Common.{◌-◌, length}
use Rattle.list.proofs.Going.{Going}
use Rattle.list.proofs.list.Given as goal

abbrev pub invariant-loop-taken : goal.invariant-loop-taken
invariant-loop-taken l = Going l.fn.begun l.input l.fn.out l.field l.taken l.written l.out

abbrev pub decreases-loop-taken : goal.decreases-loop-taken
decreases-loop-taken l = length l.input - l.taken
