-- The lister's machine answers each line as it is to be answered, so however it runs, it writes the listing.
use Rattle.std.specs.Prelude.{◌≡◌, refl, Bool, true, false, cond, not, ℕ, eqb, Ok, Err}
use Rattle.std.proofs.Common.{◌∙◌}
use mathlib.Core.List.{List, [], ◌∷◌, foldl}
use Rattle.fields.specs.Fields.{fed_by}
use Rattle.fields.proofs.TypedLines.{line_typed}
use Rattle.fields.specs.declared.Field.TheVariants.{Empty}
use Rattle.fractions.specs.declared.Fraction.{Fraction}
use Rattle.refusals.specs.declared.Refusal.TheVariants.{Malformed, OutOfRange}
use Rattle.lines.specs.Lines.{answered}
use Rattle.lines.specs.Machines.{run}
use Rattle.lines.proofs.Stretches.{run-answered}
use Rattle.outcomes.specs.Outcomes.{first_of}
use Rattle.outcomes.specs.Refusals.{zero_denominator}
use Rattle.outcomes.specs.Typing.{numerator_of, denominator_of, is_shaped, large_numeral}
use Rattle.outcomes.specs.Listing.{accepted_line, refused_line, line_for, line_answer, listing}
use Rattle.list.specs.Ratios.{answer_typed, answer_of, ratios}

-- a typed ratio is answered by the first fault of its line that is there
typed_answered : (shaped large : Bool) (r : Fraction)
    → answer_typed (cond shaped (cond large (Err OutOfRange) (Ok r)) (Err Malformed))
    ≡ line_for (first_of ((10, not shaped) ∷ (7, large) ∷ zero_denominator r.denominator ∷ [])) r.numerator
    r.denominator
typed_answered false large r = refl
typed_answered true true r = refl
typed_answered true false r = by_test (eqb r.denominator 0)
  where
    by_test : (b : Bool) → cond b (refused_line 1) (accepted_line r.numerator r.denominator)
        ≡ line_for (first_of ((1, b) ∷ [])) r.numerator r.denominator
    by_test true = refl
    by_test false = refl

-- the answer to what was fed is the answer to the line
pub line_answered : (l : List ℕ) → answer_of (foldl fed_by Empty l) ≡ line_answer l
unfolding line_answer
line_answered l =
    rw (line_typed l)
    (typed_answered (is_shaped l) (large_numeral l).1
    (record { numerator = numerator_of l; denominator = denominator_of l }))

-- however the input comes in turns, the listing is written
pub listing-run : (input : List ℕ) (turns : List (ℕ × ℕ)) → run ratios Empty input turns ≡ listing input
unfolding listing
listing-run input turns = run-answered ratios input turns ∙ (λ i. answered (λ l. line_answered l i) input)
