-- The last digits of a number, as many as are asked for; zeros stand in front where the number has fewer. They are put
-- out from the last on.
use Rattle.std.specs.Prelude.{◌≡◌, List, [], ◌++◌, ℕ, zero, suc, ◌/◌, ◌%◌, length, drop}
use Rattle.std.proofs.Common.{add-one, arith, length-append}
use Rattle.numerals.specs.Numerals.{last_behind, decimal_of}
use Rattle.numerals.proofs.Laws.{decimal_induction}

abbrev pub last_digits : ℕ → ℕ → List ℕ
last_digits zero n = []
last_digits (suc k) n = last_behind (last_digits k (n / 10)) n

-- memory once the digits of left stand before a place too
abbrev pub digits_to : ℕ → ℕ → List ℕ → List ℕ
digits_to at left m = last_digits at left ++ drop at m

-- as many as the numeral has are the numeral
pub last-all : (n : ℕ) → last_digits (length (decimal_of n)) n ≡ decimal_of n
last-all =
    decimal_induction (λ n t. last_digits (length t) n ≡ t)
    (λ n h. let last : n % 10 ≡ n = omega arith in rw last)
    (λ n h e. rw (length-append, add-one, e))
