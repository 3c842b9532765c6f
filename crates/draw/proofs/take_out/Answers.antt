-- Each way is what seeking and storing gave, by `proofs/Taking.antt`.
use Rattle.std.proofs.Common.{refl, ◌∙◌, rules, arith}
use Rattle.outcomes.specs.Stocking.{take_out}
use Rattle.seek.specs.Answers.{stocked_as}
use Rattle.seek.specs.Callers.{told_on, here-within}
use Rattle.seek.proofs.Changing.{refused_on}
use Rattle.draw.proofs.Taking.{take_none, none_there, take_few, take-some, take-all}
use Rattle.draw.proofs.take_out.Goals as goal

pub returns-in_err-sought : goal.returns-in_err-sought
returns-in_err-sought c =
    told_on _ _ _ _ (take_out _ _ _) refl stocked_as _ c.in_err-sought.ensures c.from_residual.ensures.1

pub returns-then-n-eq0 : goal.returns-then-n-eq0
returns-then-n-eq0 c = take_none _ _ _ _ _ _ c.in_ok-sought.ensures (omega arith)

-- of a ratio that has no row
pub returns-in_default : goal.returns-in_default
returns-in_default c =
    none_there _ _ _ _ _ (omega arith) (rw c.in_default.is at c.in_ok-sought.ensures)

-- of a row that is there
pub returns-in_err-quantity : goal.returns-in_err-quantity
returns-in_err-quantity c =
    let few = rw c.in_err-quantity.ensures.ok_part at c.checked_sub.ensures in
    refused_on 3 stocked_as _ _ _ _ c.in_err-quantity.ensures.value c.from_residual-in_err-quantity.ensures.1
    ∙ take_few _ _ _ _ _ (omega arith) (rw c.in-Here.is at c.in_ok-sought.ensures) (omega arith)

pub overflow_sub-result : goal.overflow_sub-result
overflow_sub-result c =
    omega (arith, here-within _ _ _ _ (rw c.in-Here.is at c.in_ok-sought.ensures))

pub returns-then-quantity-eq0 : goal.returns-then-quantity-eq0
returns-then-quantity-eq0 c =
    take-all _ _ _ _ _ (omega arith) (rw c.in-Here.is at c.in_ok-sought.ensures) (λ i. search rules)
    (rw c.in_ok-quantity.ensures.ok_part at c.checked_sub.ensures) (omega arith) c.remove.ensures

pub returns : goal.returns
returns c =
    take-some _ _ _ _ _ (omega arith) (rw c.in-Here.is at c.in_ok-sought.ensures) (λ i. search rules)
    (rw c.in_ok-quantity.ensures.ok_part at c.checked_sub.ensures) (omega arith) c.put.ensures
