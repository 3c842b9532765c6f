-- Reading by forward convergents: the first that is over the limit settles that the value is, at the quotient that
-- caused it.
use Rattle.std.specs.Prelude.{◌≡◌, Bool, true, false, cond, List, [], ◌∷◌, ℕ, ◌+◌, ◌*◌, ◌/◌, ◌%◌, ◌^◌, ◌≤◌, ◌<◌, length, Result, Ok, Err}
use Rattle.bits.specs.Strings.{Bits, turn}
use Rattle.blocks.specs.Blocks.{bits_of_block}
use Rattle.families.specs.Words.{word_of}
use Rattle.families.proofs.Published.{words1983}
use Rattle.fractions.specs.Fractions.{Ratio, ◌over◌}
use Rattle.fractions.specs.declared.Fraction.{Fraction}
use Rattle.fractions.specs.Convergents.{convergent, forward}
use Rattle.keys.specs.Keys.{read, value_of_key}
use Rattle.keys.specs.Places.{quotients_at}
use Rattle.outcomes.specs.Refusals.{out_of_range}

-- a ratio in one number, denominator above numerator, and back
abbrev pub packed : Ratio → ℕ
packed w = w.den * 2 ^ 32 + w.num

abbrev pub ratio_in : ℕ → Ratio
ratio_in n = (n % 2 ^ 32) over (n / 2 ^ 32)

abbrev pub bits_in : ℕ → ℕ → Bits
bits_in high low = bits_of_block (record { high = high; low = low })

-- a ratio as it is answered
abbrev pub fraction : Ratio → Fraction
fraction r = record { numerator = r.num; denominator = r.den }

-- the value of a string
abbrev pub value_in : Bits → Ratio
value_in s = value_of_key words1983 s

-- whether numerator or denominator is above the limit
abbrev pub is_over : Ratio → Bool
is_over r = (out_of_range r).1

-- a ratio in one number, or 0 where it is over the limit
unfoldable pub limited : Ratio → ℕ
limited w = cond (is_over w) 0 (packed w)

-- the quotients l read on from the convergents u and, before that, v, with the characters used: the last convergent,
-- or, where one is over the limit, the characters used before its quotient
unfoldable pub found_from : ℕ → Ratio → Ratio → List ℕ → ℕ
found_from used u v [] = packed u
found_from used u v (a ∷ l) =
    let w = convergent a u v in cond (is_over w) used (found_from (used + length (word_of a)) w u l)

-- a place from which a convergent u goes on, at most the given characters used
pub record Ready (most used u : ℕ) : Type 0 where
  pub few : used ≤ most
  pub some : 1 ≤ u

-- r is what is found in s from a place on, and below 2^32 where the last convergent is over the limit
pub record Finds (s : Bits) (used : ℕ) (z : Bool) (u v : Ratio) (r : ℕ) : Type 0 where
  pub number : r ≡ found_from used u v (quotients_at words1983 s used z)
  pub low : is_over (forward u v (quotients_at words1983 s used z)) ≡ true → r < 2 ^ 32

-- the same of a whole string, whose first character says by which convergents reading begins
unfoldable pub found_in : Bits → ℕ
found_in [] = 0
found_in (true ∷ s) = found_from 1 (1 over 0) (0 over 1) (read words1983 false s)
found_in (false ∷ s) = found_from 1 (0 over 1) (1 over 0) (read words1983 true (turn s))

-- the value of a string, or the characters used before the quotient by which it is over the limit
unfoldable pub found_of : Bits → Result Fraction ℕ
found_of s =
    let v = value_in s in cond (is_over v) (Err (found_in s)) (Ok (fraction v))
