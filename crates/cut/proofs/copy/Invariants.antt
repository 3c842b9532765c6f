-- The characters of the groups before are copied.
use Rattle.std.proofs.Common.{◌*◌}
use Rattle.cut.proofs.Copying.{Copied}
use Rattle.cut.proofs.copy.Given as goal

abbrev pub invariant-loop-group : goal.invariant-loop-group
invariant-loop-group l = Copied l.k l.fn.out l.out (8 * l.group)
