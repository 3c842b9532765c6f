-- What comparing answers, by what judging the two keys and their bytes gave.
use Rattle.std.specs.Prelude.{◌≡◌, ℕ, Result, Ok, Err}
use Rattle.std.proofs.Common.{◌∙◌}
use Rattle.std.specs.Result.{IsErrAnd}
use Rattle.std.specs.Cmp.Lexicographic.{slice_cmp}
use Rattle.std.specs.Ordering.{nat_cmp}
use Rattle.std.specs.declared.cmp.Ordering.{Ordering}
use mathlib.Core.List.{List, [], ◌∷◌}
use Rattle.bits.specs.Texts.{bits_of_text}
use Rattle.outcomes.specs.Outcomes.{leaves, given, called}
use Rattle.outcomes.specs.Comparing.{standing, compare_text}
use Rattle.outcomes.specs.Refusals.{key_refusals}
use Rattle.refusals.specs.declared.Refusal.{Refusal}
use Rattle.refusals.specs.Answers.{answered}
use Rattle.scan.specs.Judging.{judgement}
use Rattle.scan.proofs.Callers.{told_on, told-key, judged-clear}
use Rattle.scan.specs.declared.Fault.{Fault}
use Rattle.compare.specs.Answers.{standing_as}
use Rattle.compare.proofs.Bytes.{stands}
use Rattle.compare.proofs.KeyOrder.{byte_standing_lem}

module _ (j k : List ℕ) where
  abbrev numbers : List ℕ
  numbers = standing (bits_of_text j) (bits_of_text k) ∷ []

  pub first_faulty : (r : Result Ordering Refusal) (f : Fault) → Err f ≡ judgement j → IsErrAnd r (λ d. d ≡ f.refusal)
      → leaves (answered 1 standing_as r) [] ≡ compare_text j k
  unfolding compare_text
  first_faulty = told_on j (key_refusals k []) numbers [] [] standing_as

  module _ (e : Ok tt ≡ judgement j) where
    first-key : called (key_refusals k []) numbers [] [] ≡ compare_text j k
    unfolding compare_text
    first-key = (told-key j (key_refusals k []) numbers [] [] e).1

    pub second_faulty : (r : Result Ordering Refusal) (f : Fault) → Err f ≡ judgement k
        → IsErrAnd r (λ d. d ≡ f.refusal) → leaves (answered 1 standing_as r) [] ≡ compare_text j k
    second_faulty r f d h = told_on k [] numbers [] [] standing_as r f d h ∙ first-key

    pub stood : (o : Ordering) → Ok tt ≡ judgement k → o ≡ slice_cmp nat_cmp j k
        → leaves (given (standing_as o)) [] ≡ compare_text j k
    stood o d s =
        rw (s, stands j k, byte_standing_lem j k (judged-clear j e) (judged-clear k d))
        ((told-key k [] numbers [] [] d).1 ∙ first-key)
