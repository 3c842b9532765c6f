-- An answer tells the result, where its values tell what they are of.
use Rattle.std.specs.Prelude.{◌≡◌, refl, cond, List, ℕ, eqb, Result, Ok, Err}
use Rattle.std.proofs.Common.{ap}
use Rattle.outcomes.specs.Outcomes.{Answer}
use Rattle.refusals.specs.declared.Refusal.{Refusal}
use Rattle.refusals.specs.declared.Refusal.TheVariants.{ZeroDenominator, WrongSize, EmptyKey, LongKey, StrangeKey, OpenKey}
use Rattle.refusals.specs.declared.Refusal.TheVariants.{OutOfRange, Outside, WrongColumn, Malformed, TableFull}
use Rattle.refusals.specs.declared.Refusal.TheVariants.{NoSuchRatio, LargeSum, TooFew, NoQuantity, UnsoundTable}
use Rattle.refusals.specs.Numbers.{refusal_of}
use Rattle.refusals.specs.Answers.{answered}

module _ {X : Type 0} (v : ℕ) (values : X → List ℕ) (back : List ℕ → X) where
  abbrev pub told_by : Answer → Result X Refusal
  told_by a = cond (eqb a.refusal 0) (Ok (back a.values)) (Err (refusal_of a.refusal))

  pub answered-told : ((x : X) → back (values x) ≡ x) → (r : Result X Refusal) → told_by (answered v values r) ≡ r
  answered-told same (Ok x) = ap Ok (same x)
  answered-told same (Err ZeroDenominator) = refl
  answered-told same (Err WrongSize) = refl
  answered-told same (Err EmptyKey) = refl
  answered-told same (Err LongKey) = refl
  answered-told same (Err StrangeKey) = refl
  answered-told same (Err OpenKey) = refl
  answered-told same (Err OutOfRange) = refl
  answered-told same (Err Outside) = refl
  answered-told same (Err WrongColumn) = refl
  answered-told same (Err Malformed) = refl
  answered-told same (Err TableFull) = refl
  answered-told same (Err NoSuchRatio) = refl
  answered-told same (Err LargeSum) = refl
  answered-told same (Err TooFew) = refl
  answered-told same (Err NoQuantity) = refl
  answered-told same (Err UnsoundTable) = refl
