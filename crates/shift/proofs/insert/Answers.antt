-- Those behind the row are raised, and the row is put.
use Rattle.std.proofs.Common.{arith}
use Rattle.shift.specs.Shifting.{inserted}
use Rattle.shift.proofs.insert.Goals as goal

pub returns : goal.returns
returns c = inserted _ _ _ (omega arith) (omega arith) _ c.copy_within.ensures.after c.put.ensures
