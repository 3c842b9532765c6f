-- The bits are the number of the characters passed, which are whole groups.
use Rattle.std.proofs.Common.{◌≡◌, ◌*◌}
use Rattle.load.specs.Gathering.{Gathered}
use Rattle.load.proofs.eights.gather.Given as goal

abbrev pub invariant-loop-group : goal.invariant-loop-group
invariant-loop-group l = (l.passed ≡ 8 * l.group-index) × Gathered l.k l.bits l.passed
