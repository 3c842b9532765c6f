-- The scope's number and values tell each answer of lowest terms.
use Rattle.std.specs.Prelude.{◌≡◌, refl, Result}
use Rattle.fractions.specs.declared.Fraction.{Fraction}
use Rattle.refusals.specs.Answers.{answered, terms_as, terms_in}
use Rattle.refusals.proofs.Told.{told_by, answered-told}
use Rattle.refusals.specs.declared.Refusal.{Refusal}

pub reduced_told : (r : Result Fraction Refusal) → told_by 2 terms_as terms_in (answered 2 terms_as r) ≡ r
reduced_told = answered-told 2 terms_as terms_in (λ r. refl)
