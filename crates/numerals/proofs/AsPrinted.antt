-- Numerals that the scope prints, run.
use Rattle.std.specs.Prelude.{◌≡◌, refl, [], ◌∷◌, map}
use Rattle.numerals.specs.Numerals.{value_of, digits_from, decimal_of}

-- 0314 and 100 are read, 4294967295 and 0 are written
value_examples : map value_of ((48 ∷ 51 ∷ 49 ∷ 52 ∷ []) ∷ (49 ∷ 48 ∷ 48 ∷ []) ∷ []) ≡ 314 ∷ 100 ∷ []
value_examples = refl

decimal_examples : map decimal_of (4294967295 ∷ 0 ∷ 157 ∷ [])
    ≡ (52 ∷ 50 ∷ 57 ∷ 52 ∷ 57 ∷ 54 ∷ 55 ∷ 50 ∷ 57 ∷ 53 ∷ []) ∷ (48 ∷ []) ∷ (49 ∷ 53 ∷ 55 ∷ []) ∷ []
unfolding digits_from decimal_of
decimal_examples = refl
