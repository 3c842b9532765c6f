-- The number and the values that each struct holds.
use Rattle.std.specs.Prelude.{cond, List, [], ◌∷◌, ℕ, eqb, get_or}
use Rattle.bits.specs.Binary.{digit_of}
use Rattle.outcomes.specs.Outcomes.{Outcome, Answer}
use Rattle.outcomes.specs.Comparing.{after}
use Rattle.outcomes.specs.Stepping.{place_of}
use Rattle.lcf.specs.declared.Written.{Written}
use Rattle.lcf.specs.declared.Ratio.{Ratio}
use Rattle.lcf.specs.declared.Text.{Text}
use Rattle.lcf.specs.declared.Column.{Column}
use Rattle.lcf.specs.declared.Standing.{Standing}
use Rattle.lcf.specs.declared.Place.{Place}
use Rattle.lcf.specs.declared.Started.{Started}
use Rattle.lcf.specs.declared.Stepped.{Stepped}

abbrev pub of_written : Written → Answer
of_written r = record { refusal = r.refusal; values = r.characters ∷ r.quotients ∷ [] }

abbrev pub of_ratio : Ratio → Answer
of_ratio r = record { refusal = r.refusal; values = r.numerator ∷ r.denominator ∷ [] }

abbrev pub of_text : Text → Answer
of_text r = record { refusal = r.refusal; values = r.characters ∷ [] }

abbrev pub of_column : Column → Answer
of_column r = record { refusal = r.refusal; values = [] }

abbrev pub of_standing : Standing → Answer
of_standing r = record { refusal = r.refusal; values = r.standing ∷ [] }

abbrev pub of_place : Place → List ℕ
of_place p = place_of p.used p.turned

abbrev pub of_started : Started → Answer
of_started r = record { refusal = r.refusal; values = of_place r.place }

abbrev pub of_stepped : Stepped → Outcome
of_stepped r =
    record { refusal = r.refusal; values = digit_of r.found ∷ r.quotient ∷ []; memory = of_place r.place }

-- which of two keys is the earlier, by what comparing them gives: 1 the first, also of equal ones, 2 the second, 0
-- where it refuses
abbrev pub earlier_in : Outcome → ℕ
earlier_in o = cond (eqb o.refusal 0) (cond (eqb (get_or o.values 0 0) after) 2 1) 0
