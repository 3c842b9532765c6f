-- Each way is what seeking gave, by `proofs/Finding.antt`.
use Rattle.std.proofs.Common.{refl}
use Rattle.outcomes.specs.Stocking.{find}
use Rattle.seek.specs.Callers.{told_on}
use Rattle.lookup.specs.Answers.{found_as}
use Rattle.lookup.proofs.Finding.{find-here, find-absent}
use Rattle.lookup.proofs.find.Goals as goal

pub returns-in_err-index : goal.returns-in_err-index
returns-in_err-index c =
    told_on _ _ _ _ (find _ _) refl found_as _ c.in_err-index.ensures c.from_residual.ensures.1

pub returns-in-Here : goal.returns-in-Here
returns-in-Here c = find-here _ _ _ _ (rw c.in-Here.is at c.in_ok-index.ensures)

pub returns-in-Absent : goal.returns-in-Absent
returns-in-Absent c = find-absent _ _ _ _ (rw c.in-Absent.is at c.in_ok-index.ensures)
