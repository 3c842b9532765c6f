-- What a call's result answers: its values, or the number of its refusal and as many zeros; and the values of what
-- several calls give, with what those values tell.
use Rattle.std.specs.Prelude.{List, [], ◌∷◌, ℕ, get_or, Result, Ok, Err}
use Rattle.fractions.specs.declared.Fraction.{Fraction}
use Rattle.outcomes.specs.Outcomes.{Answer, given, refused}
use Rattle.refusals.specs.declared.Refusal.{Refusal}
use Rattle.refusals.specs.Numbers.{number_of}

abbrev pub answered : {X : Type 0} → ℕ → (X → List ℕ) → Result X Refusal → Answer
answered v values (Ok x) = given (values x)
answered v values (Err e) = refused (number_of e) v

abbrev pub terms_as : Fraction → List ℕ
terms_as r = r.numerator ∷ r.denominator ∷ []

abbrev pub terms_in : List ℕ → Fraction
terms_in l = record { numerator = get_or l 0 0; denominator = get_or l 1 0 }

abbrev pub one_as : ℕ → List ℕ
one_as n = n ∷ []

abbrev pub one_in : List ℕ → ℕ
one_in l = get_or l 0 0

abbrev pub none_as : Unit {0} → List ℕ
none_as _ = []

abbrev pub none_in : List ℕ → Unit {0}
none_in _ = tt
