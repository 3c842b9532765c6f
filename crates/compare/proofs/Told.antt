-- The scope's number and values tell each answer of comparing.
use Rattle.std.specs.Prelude.{◌≡◌, refl, Result}
use Rattle.std.specs.declared.cmp.Ordering.{Ordering}
use Rattle.std.specs.declared.cmp.Ordering.TheVariants.{Less, Equal, Greater}
use Rattle.refusals.specs.Answers.{answered}
use Rattle.refusals.proofs.Told.{told_by, answered-told}
use Rattle.refusals.specs.declared.Refusal.{Refusal}
use Rattle.compare.specs.Answers.{standing_as, standing_in}

standing_told : (o : Ordering) → standing_in (standing_as o) ≡ o
standing_told Less = refl
standing_told Equal = refl
standing_told Greater = refl

pub compared-told : (r : Result Ordering Refusal) → told_by 1 standing_as standing_in (answered 1 standing_as r) ≡ r
compared-told = answered-told 1 standing_as standing_in standing_told
