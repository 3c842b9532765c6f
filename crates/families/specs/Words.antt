-- The words of 001, section II. A number of k binary digits has a word of 2k-1 bits. (Observation 1 prints the floor of
-- twice the logarithm, plus 1; Table 1 has twice the floor, plus 1, and the table decides: the word of 3 is 101.)
use Rattle.std.specs.Prelude.{Bool, true, false, cond, [], ◌∷◌, ◌++◌, ℕ, zero, suc, ◌/◌, ◌%◌, ltb, eqb, length, replicate, drop}
use Rattle.bits.specs.Strings.{Bits}
use Rattle.bits.specs.Binary.{first_bits, number_from}

-- the binary digits of i after its leading one; no more than i of them are asked for
unfoldable pub digits_from : ℕ → ℕ → Bits
digits_from zero i = []
digits_from (suc f) i = let more = digits_from f (i / 2) ++ (eqb (i % 2) 1 ∷ []) in cond (ltb i 2) [] more

unfoldable pub digits_after_one : ℕ → Bits
digits_after_one i = digits_from i i

-- as many ones as there are digits, a zero, the digits
abbrev pub with_run : Bits → Bits
with_run s = replicate (length s) true ++ (false ∷ s)

-- the leading one of i is replaced by as many ones as digits follow it, and a zero
unfoldable pub word_of : ℕ → Bits
word_of i = with_run (digits_after_one i)

-- the ones in front of the first zero
abbrev pub run_of : Bits → ℕ
run_of [] = zero
run_of (true ∷ s) = suc (run_of s)
run_of (false ∷ s) = zero

-- the number whose word begins s, going on with z: after the run and its zero, as many digits as the run is long
unfoldable pub first_number : Bool → Bits → ℕ
first_number z s = number_from 1 (first_bits z (run_of s) (drop (suc (run_of s)) s))
