-- Each way is what seeking and storing gave, by `proofs/Putting.antt`.
use Rattle.std.proofs.Common.{refl, ◌∙◌, rules, arith}
use Rattle.outcomes.specs.Stocking.{put_in}
use Rattle.seek.specs.Answers.{stocked_as}
use Rattle.seek.specs.Callers.{told_on, absent-within}
use Rattle.seek.proofs.Changing.{refused_on}
use Rattle.stock.proofs.Putting.{put_none, put_large, put-more, new_full, new_row}
use Rattle.stock.proofs.put_in.Goals as goal

pub returns-in_err-sought : goal.returns-in_err-sought
returns-in_err-sought c =
    told_on _ _ _ _ (put_in _ _ _) refl stocked_as _ c.in_err-sought.ensures c.from_residual.ensures.1

pub returns-then-n-eq0 : goal.returns-then-n-eq0
returns-then-n-eq0 c = put_none _ _ _ _ _ _ c.in_ok-sought.ensures (omega arith)

-- to a row that is there
pub returns-in_err-quantity-in-Here : goal.returns-in_err-quantity-in-Here
returns-in_err-quantity-in-Here c =
    let large = rw c.in_err-quantity-in-Here.ensures.ok_part at c.checked_add.ensures in
    refused_on 3 stocked_as _ _ _ _ c.in_err-quantity-in-Here.ensures.value
    c.from_residual-in_err-quantity-in-Here.ensures.1
    ∙ put_large _ _ _ _ _ (omega arith) (rw c.in-Here.is at c.in_ok-sought.ensures) (omega arith)

pub returns-in_ok-quantity-in-Here : goal.returns-in_ok-quantity-in-Here
returns-in_ok-quantity-in-Here c =
    let sum = rw c.in_ok-quantity-in-Here.ensures.ok_part at c.checked_add.ensures in
    put-more _ _ _ _ _ (omega arith) (rw c.in-Here.is at c.in_ok-sought.ensures) (λ i. search rules)
    (omega arith, sum.1) c.put.ensures

-- to a ratio that has no row
pub returns-then-used-table : goal.returns-then-used-table
returns-then-used-table c =
    new_full _ _ _ _ _ (omega arith) (search rules) (rw c.in-Absent.is at c.in_ok-sought.ensures) (omega arith)

pub overflow_add-result : goal.overflow_add-result
overflow_add-result c =
    let within = absent-within _ _ _ _ (rw c.in-Absent.is at c.in_ok-sought.ensures) in
    record { fits = omega arith }

pub returns-else-used-table : goal.returns-else-used-table
returns-else-used-table c =
    new_row _ _ _ _ _ (omega arith) (search rules) (rw c.in-Absent.is at c.in_ok-sought.ensures) (λ i. search rules)
    (λ z. omega arith) c.insert.ensures
