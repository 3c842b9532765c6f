-- The lister's machine: it is fed a field, and answers with the line that the field calls for.
use Rattle.std.specs.Prelude.{refl, cond, ◌||◌, List, ℕ, ◌≤◌, eqb, ltb, length, Result, Ok, Err}
use mathlib.Mathlib.Data.Bool.Basic.{or-eq-false-eq-eq-false-and-eq-false as neither-true}
use Rattle.std.proofs.Common.{arith, ltb-false}
use Rattle.std.proofs.lemmas.Bool.{eqb-false}
use Rattle.fields.specs.Fields.{fed_by, is_blank, typed_of}
use Rattle.fields.proofs.TypedLines.{chosen, fed_not_blank}
use Rattle.fields.specs.declared.Field.{Field}
use Rattle.fields.specs.declared.Field.TheVariants.{Empty, First, Second, Bad}
use Rattle.fractions.specs.declared.Fraction.{Fraction}
use Rattle.refusals.specs.declared.Refusal.{Refusal}
use Rattle.refusals.specs.Numbers.{number_of}
use Rattle.keys.specs.Size.{limit}
use Rattle.lines.specs.Machines.{Machine}
use Rattle.outcomes.specs.Listing.{accepted_line, refused_line}
use Rattle.list.specs.Sizes.{accepted_size, refused_size}

-- a typed ratio is refused by 1, or accepted
abbrev pub answer_with : ℕ → ℕ → List ℕ
answer_with p q = cond (eqb q 0) (refused_line 1) (accepted_line p q)

abbrev pub answer_typed : Result Fraction Refusal → List ℕ
answer_typed (Ok r) = answer_with r.numerator r.denominator
answer_typed (Err e) = refused_line (number_of e)

abbrev pub answer_of : Field → List ℕ
answer_of s = answer_typed (typed_of s)

-- an answer has at most 130 bytes, whatever was fed
pub answer_size : (s : Field) → length (answer_of s) ≤ 130
answer_size Empty = refused_size 10 (omega arith)
answer_size (First n) = refused_size 10 (omega arith)
answer_size Bad = refused_size 10 (omega arith)
answer_size (Second n p) =
    let v = n.value in
    chosen (Fits answer_typed) (eqb n.digits 0) (refused_size 10 (omega arith)) (λ _.
    chosen (Fits answer_typed) (ltb limit p || ltb limit v) (refused_size 7 (omega arith)) (λ e.
    let (f, g) = (neither-true (ltb limit p) (ltb limit v)).0 e in
    chosen (Fits (λ t. t)) (eqb v 0) (refused_size 1 (omega arith)) (λ h.
    accepted_size p v (omega (arith, eqb-false v 0 h)) (ltb-false limit p f) (ltb-false limit v g))))
  where
    Fits : {A : Type 0} → (A → List ℕ) → A → Type 0
    Fits text x = length (text x) ≤ 130

abbrev pub ratios : Machine
ratios = record {
  State = Field;
  start = Empty;
  fed = fed_by;
  blank = is_blank;
  answer = answer_of;
  longest = 130;
  start_blank = refl;
  fed_some = fed_not_blank;
  within = answer_size;
}
