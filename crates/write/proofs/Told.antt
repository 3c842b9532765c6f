-- The scope's number and values tell each answer of writing.
use Rattle.std.specs.Prelude.{◌≡◌, refl, Result}
use Rattle.refusals.specs.declared.Refusal.{Refusal}
use Rattle.refusals.specs.Answers.{answered}
use Rattle.refusals.proofs.Told.{told_by, answered-told}
use Rattle.write.specs.declared.Written.{Written}
use Rattle.write.specs.Answers.{written_as, written_in}

pub written-told : (r : Result Written Refusal) → told_by 2 written_as written_in (answered 2 written_as r) ≡ r
written-told = answered-told 2 written_as written_in (λ w. refl)
