-- Strings of bits as the characters 0 and 1, the bytes 48 and 49, and in lent memory.
use Rattle.std.specs.Prelude.{Bool, cond, List, ◌++◌, map, ℕ, ◌<◌, eqb, length, get_or, take, drop}
use Rattle.bits.specs.Strings.{Bits}

abbrev pub char_of : Bool → ℕ
char_of b = cond b 49 48

abbrev pub text_of : Bits → List ℕ
text_of s = map char_of s

-- the bits of a text; a character other than 1 counts as 0
abbrev pub bits_of_text : List ℕ → Bits
bits_of_text k = map (λ c. eqb c 49) k

-- memory after t was written at its front
abbrev pub in_front : List ℕ → List ℕ → List ℕ
in_front t m = t ++ drop (length t) m

-- memory after t was written from a place on
abbrev pub pasted : List ℕ → ℕ → List ℕ → List ℕ
pasted t at m = take at m ++ in_front t (drop at m)

-- memory is made of bytes
abbrev pub Bytes : List ℕ → Type 0
Bytes m = (i : ℕ) → get_or m i 0 < 256
