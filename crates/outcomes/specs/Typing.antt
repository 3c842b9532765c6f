-- A ratio as it is typed: digits, a slash, digits.
use Rattle.std.specs.Prelude.{◌≡◌, Bool, true, cond, not, ◌&&◌, ◌||◌, List, [], ◌∷◌, ◌++◌, ℕ, eqb, ltb, length}
use Rattle.keys.specs.Size.{limit}
use Rattle.numerals.specs.Numerals.{all_digits, value_of}
use Rattle.outcomes.specs.Outcomes.{Outcome, Refusal, called}

-- what stands before the first slash, and what stands behind it
unfoldable pub before_slash : List ℕ → List ℕ
before_slash [] = []
before_slash (c ∷ l) = cond (eqb c 47) [] (c ∷ before_slash l)

unfoldable pub after_slash : List ℕ → List ℕ
after_slash [] = []
after_slash (c ∷ l) = cond (eqb c 47) l (after_slash l)

-- 1 to 10 decimal digits
abbrev pub size_within : List ℕ → Bool
size_within t = ltb 0 (length t) && ltb (length t) 11

abbrev pub is_numeral : List ℕ → Bool
is_numeral t = all_digits t && size_within t

-- numerator and denominator as they are typed
abbrev pub numerator_of : List ℕ → ℕ
numerator_of l = value_of (before_slash l)

abbrev pub denominator_of : List ℕ → ℕ
denominator_of l = value_of (after_slash l)

-- whether a line is a numeral, a slash and a numeral, and that it is one
abbrev pub is_shaped : List ℕ → Bool
is_shaped l = is_numeral (before_slash l) && is_numeral (after_slash l)

-- l is the numerals s and t with a slash between them
pub record IsRatio (l s t : List ℕ) : Type 0 where
  pub line : l ≡ s ++ (47 ∷ t)
  pub first : is_numeral s ≡ true
  pub second : is_numeral t ≡ true

-- 10: a line malformed
abbrev pub malformed : List ℕ → Refusal
malformed l = (10, not (is_shaped l))

-- 7, for what is typed: a numeral above 4294967295
abbrev pub large_numeral : List ℕ → Refusal
large_numeral l = (7, ltb limit (numerator_of l) || ltb limit (denominator_of l))

-- a typed ratio, read: refuses by 10, then 7; gives numerator and denominator, not reduced
unfoldable pub typed_ratio : List ℕ → Outcome
typed_ratio l = called (malformed l ∷ large_numeral l ∷ []) (numerator_of l ∷ denominator_of l ∷ []) [] []
