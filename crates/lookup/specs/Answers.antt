-- The values of what finding and listing give, and what values tell.
use Rattle.std.specs.Prelude.{cond, List, [], ◌∷◌, ℕ, eqb, get_or, Option, Some, None}
use Rattle.tables.specs.declared.Row.{Row}
use Rattle.lookup.specs.declared.Found.{Found}
use Rattle.lookup.specs.declared.Listed.{Listed}

abbrev pub found_as : Found → List ℕ
found_as f = f.index ∷ f.quantity ∷ []

abbrev pub found_in : List ℕ → Found
found_in l = record { index = get_or l 0 0; quantity = get_or l 1 0 }

-- a row's after a 1; zeros where there is none
abbrev pub listed_as : Option Listed → List ℕ
listed_as None = 0 ∷ 0 ∷ 0 ∷ 0 ∷ 0 ∷ []
listed_as (Some l) = 1 ∷ l.index ∷ l.row.numerator ∷ l.row.denominator ∷ l.row.quantity ∷ []

-- the row whose numbers stand from the third value on
abbrev row_in : List ℕ → Row
row_in l = record { numerator = get_or l 2 0; denominator = get_or l 3 0; quantity = get_or l 4 0 }

abbrev pub listed_in : List ℕ → Option Listed
listed_in l = cond (eqb (get_or l 0 0) 0) None (Some (record { index = get_or l 1 0; row = row_in l }))
