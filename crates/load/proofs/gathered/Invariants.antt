-- The bits are the number of the characters passed.
use Rattle.std.proofs.Common.{◌+◌, ◌-◌, length}
use Rattle.load.specs.Gathering.{Gathered}
use Rattle.load.proofs.gathered.Given as goal

abbrev pub invariant-loop-c : goal.invariant-loop-c
invariant-loop-c l = Gathered l.k l.bits (length l.k - length l.c-items + l.c-index)
