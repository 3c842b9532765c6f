-- What a key has left at a place: the characters used, and whether a turned word is due.
use Rattle.std.specs.Prelude.{Bool, cond, List, ℕ, drop}
use Rattle.bits.specs.Strings.{Bits, turn}
use Rattle.families.specs.Families.{Family}
use Rattle.keys.specs.Keys.{read}

-- what is left of s after the characters used, as it is read: turned where a turned word is due
abbrev pub left_at : Bits → ℕ → Bool → Bits
left_at s used z = cond z (turn (drop used s)) (drop used s)

-- the quotients that s has from a place on
abbrev pub quotients_at : Family → Bits → ℕ → Bool → List ℕ
quotients_at F s used z = read F z (left_at s used z)
