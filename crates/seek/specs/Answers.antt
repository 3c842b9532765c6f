-- The values of what a change of the table leaves: how many rows are used, the index and the quantity; and back.
use Rattle.std.specs.Prelude.{List, [], ◌∷◌, ℕ, get_or}
use Rattle.tables.specs.declared.Stocked.{Stocked}

abbrev pub stocked_as : Stocked → List ℕ
stocked_as r = r.used ∷ r.index ∷ r.quantity ∷ []

abbrev pub stocked_in : List ℕ → Stocked
stocked_in l = record { used = get_or l 0 0; index = get_or l 1 0; quantity = get_or l 2 0 }
