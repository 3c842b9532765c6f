-- Strings of bits as binary numbers, and as bytes.
use Rattle.std.specs.Prelude.{Bool, false, cond, List, [], ◌∷◌, ◌++◌, ℕ, zero, suc, ◌+◌, ◌*◌, ◌/◌, ◌%◌, ◌^◌, eqb, drop}
use Rattle.bits.specs.Strings.{Bits}

-- a bit as a number
abbrev pub digit_of : Bool → ℕ
digit_of b = cond b 1 0

-- s as binary digits, read on from v: each digit doubles what is read and adds itself
abbrev pub number_from : ℕ → Bits → ℕ
number_from v [] = v
number_from v (b ∷ s) = number_from (2 * v + digit_of b) s

-- s as a binary number
abbrev pub number_of : Bits → ℕ
number_of s = number_from 0 s

-- the first n bits of s, going on with z
abbrev pub first_bits : Bool → ℕ → Bits → Bits
first_bits z zero s = []
first_bits z (suc n) [] = z ∷ first_bits z n []
first_bits z (suc n) (b ∷ s) = b ∷ first_bits z n s

-- the first 8 * n bits of s, extended by zeros, as n bytes, top bit first
abbrev pub bytes_of : ℕ → Bits → List ℕ
bytes_of zero s = []
bytes_of (suc n) s = number_of (first_bits false 8 s) ∷ bytes_of n (drop 8 s)

-- the n lowest binary digits of v, top digit first
unfoldable pub digits_in : ℕ → ℕ → Bits
digits_in zero v = []
digits_in (suc n) v = eqb (v / 2 ^ n % 2) 1 ∷ digits_in n v

-- the bits of bytes, top bit first
abbrev pub bits_of_bytes : List ℕ → Bits
bits_of_bytes [] = []
bits_of_bytes (c ∷ l) = digits_in 8 c ++ bits_of_bytes l
