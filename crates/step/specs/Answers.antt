-- The scope's values for a place and for what a step meets, and what these tell.
use Rattle.std.specs.Prelude.{cond, List, [], ◌∷◌, ℕ, eqb, get_or, Option, Some, None}
use Rattle.outcomes.specs.Outcomes.{Outcome, leaves}
use Rattle.outcomes.specs.Stepping.{place_of, step_text}
use Rattle.refusals.specs.Answers.{answered}
use Rattle.scan.specs.Taking.{is_turned}
use Rattle.scan.specs.declared.Kind.{Kind}
use Rattle.scan.specs.declared.Kind.TheVariants.{Word, Turned}
use Rattle.scan.specs.declared.Place.{Place}
use Rattle.step.specs.declared.Stepped.{Stepped}

abbrev pub place_as : Place → List ℕ
place_as p = place_of p.used (is_turned p.due)

-- a quotient, or the end
abbrev pub quotient_as : Option ℕ → List ℕ
quotient_as (Some a) = 1 ∷ a ∷ []
quotient_as None = 0 ∷ 0 ∷ []

-- what a step leaves is the place that it hands back
abbrev pub stepped_as : Stepped → Outcome
stepped_as r = leaves (answered 2 quotient_as r.met) (place_as r.place)

-- the outcome of a step from a place
abbrev pub step_from : List ℕ → Place → Outcome
step_from k p = step_text k p.used (is_turned p.due)

-- the kind that a number stands for, and the place and the quotient that numbers do
abbrev pub kind_of : ℕ → Kind
kind_of n = cond (eqb n 1) Turned Word

abbrev pub place_in : List ℕ → Place
place_in l = record { used = get_or l 0 0; due = kind_of (get_or l 1 0) }

abbrev pub quotient_in : List ℕ → Option ℕ
quotient_in l = cond (eqb (get_or l 0 0) 0) None (Some (get_or l 1 0))
