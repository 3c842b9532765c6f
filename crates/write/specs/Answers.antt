-- The values of writing, and what they tell.
use Rattle.std.specs.Prelude.{List, [], ◌∷◌, ℕ, get_or}
use Rattle.write.specs.declared.Written.{Written}

abbrev pub written_as : Written → List ℕ
written_as w = w.characters ∷ w.quotients ∷ []

abbrev pub written_in : List ℕ → Written
written_in l = record { characters = get_or l 0 0; quotients = get_or l 1 0 }
