-- Strings of bits, as 001 uses them: a string stands for the infinite one that goes on with zeros (section II). Where a
-- string is turned, what it goes on with is turned too; so that bit, z, is an argument.
use Rattle.std.specs.Prelude.{◌≡◌, Bool, true, false, not, ◌&&◌, List, [], ◌∷◌, map, ℕ, ◌<◌, eqb, get_or}
use Prim.Native.Char.{code}
use Prim.Native.String.{String, [] as []ᵗ, ◌∷◌ as ◌∷ᵗ◌}

abbrev pub Bits : Type 0
Bits = List Bool

-- the bits of a printed string of characters 0 and 1
unfoldable pub bits_of : String → Bits
bits_of []ᵗ = []
bits_of (c ∷ᵗ s) = eqb (code c) 49 ∷ bits_of s

-- each bit changed (001: the 1's complement)
abbrev pub turn : Bits → Bits
turn s = map not s

-- two strings that go on with z are one infinite string (001: lexicographically equal, where z is 0)
abbrev pub Same : Bool → Bits → Bits → Type 0
Same z s t = (i : ℕ) → get_or s i z ≡ get_or t i z

-- they agree in their first n bits
abbrev pub Agree : Bool → ℕ → Bits → Bits → Type 0
Agree z n s t = (i : ℕ) → i < n → get_or s i z ≡ get_or t i z

-- every bit is 1
abbrev pub all_ones : Bits → Bool
all_ones [] = true
all_ones (b ∷ s) = b && all_ones s

-- s stands before t, both going on with z: they agree below some place, and there s has 0 and t has 1
pub record Before (z : Bool) (s t : Bits) : Type 0 where
  pub place : ℕ
  pub agree : Agree z place s t
  pub low : get_or s place z ≡ false
  pub high : get_or t place z ≡ true

infix 20 ◌≺◌
-- the order of 001, section II: both extended by zeros
abbrev pub ◌≺◌ : Bits → Bits → Type 0
s ≺ t = Before false s t

-- a zero in front, unless nothing follows it
abbrev pub behind_zero : Bits → Bits
behind_zero [] = []
behind_zero (b ∷ s) = false ∷ b ∷ s

-- the zeros after the last 1 dropped
abbrev pub trimmed : Bits → Bits
trimmed [] = []
trimmed (false ∷ s) = behind_zero (trimmed s)
trimmed (true ∷ s) = true ∷ trimmed s

-- the same, but that the first character stays
abbrev pub closed : Bits → Bits
closed [] = []
closed (b ∷ s) = b ∷ trimmed s
