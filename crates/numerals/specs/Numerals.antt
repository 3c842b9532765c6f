-- Decimal numerals: the bytes 48 to 57, the first digit first.
use Rattle.std.specs.Prelude.{Bool, true, cond, ◌&&◌, ℕ, zero, suc, ◌+◌, ◌-◌, ◌*◌, ◌/◌, ◌%◌, leb, eqb}
use mathlib.Core.List.{List, [], ◌∷◌, ◌++◌, foldl}

abbrev pub is_digit : ℕ → Bool
is_digit c = leb 48 c && leb c 57

abbrev pub all_digits : List ℕ → Bool
all_digits [] = true
all_digits (c ∷ t) = is_digit c && all_digits t

-- v, read on by the digits of t
abbrev pub value_from : ℕ → List ℕ → ℕ
value_from v t = foldl (λ w c. w * 10 + (c - 48)) v t

-- the number that a numeral stands for; zeros in front are fine
abbrev pub value_of : List ℕ → ℕ
value_of t = value_from 0 t

-- n's last digit behind others
abbrev pub last_behind : List ℕ → ℕ → List ℕ
last_behind t n = t ++ ((48 + n % 10) ∷ [])

-- the digits of n, none for 0; each step takes one, so n steps are enough
unfoldable pub digits_from : ℕ → ℕ → List ℕ
digits_from zero n = []
digits_from (suc k) n = let more = last_behind (digits_from k (n / 10)) n in cond (eqb n 0) [] more

-- the numeral of n, with no zero in front but that of 0 itself
unfoldable pub decimal_of : ℕ → List ℕ
decimal_of n = last_behind (digits_from n (n / 10)) n
