-- The bits of a text as they are read from its characters, and a run of ones in front of bits.
use Rattle.std.specs.Prelude.{◌≡◌, Bool, List, ℕ, ◌+◌, drop}
use Rattle.bits.specs.Strings.{Bits}
use Rattle.bits.specs.Texts.{bits_of_text}
use Rattle.families.specs.Words.{run_of}
use Rattle.keys.specs.Places.{left_at}

-- the bits of a text as they are read: turned where a turned word is due
abbrev pub bits_read : List ℕ → Bool → Bits
bits_read k z = left_at (bits_of_text k) 0 z

-- the first n bits are ones
abbrev pub Ran : Bits → ℕ → Type 0
Ran s n = run_of s ≡ n + run_of (drop n s)
