-- What spelling p/q gives: the block of its key, the quotients written, and the greatest common divisor.
use Rattle.std.specs.Prelude.{true, cond, List, ℕ, ◌+◌, ◌^◌, ◌≤◌, ◌<◌, eqb, length, Result, Ok, Err}
use Rattle.bits.specs.Strings.{Bits, turn}
use Rattle.blocks.specs.Blocks.{block_of}
use Rattle.families.proofs.Published.{words1983}
use Rattle.fractions.specs.Fractions.{gcd, form_of}
use Rattle.fractions.specs.TwoStates.{alternate}
use Rattle.keys.specs.Keys.{spelled, key_of, count_of}
use Rattle.spell.specs.declared.Spelled.{Spelled}
use Rattle.refusals.specs.declared.Refusal.{Refusal}
use Rattle.refusals.specs.declared.Refusal.TheVariants.{ZeroDenominator}

-- a key's block, with the quotients and the divisor that belong to it
abbrev pub spelt : Bits → ℕ → ℕ → Spelled
spelt t n d = record { block = block_of t; quotients = n; divisor = d }

unfoldable pub spelling : ℕ → ℕ → Result Spelled Refusal
spelling p q =
    cond (eqb q 0) (Err ZeroDenominator) (Ok (spelt (key_of words1983 p q) (count_of (form_of p q)) (gcd p q)))

-- the quotients still to be written in the turned state d, r, and their words
abbrev pub to_come : ℕ → ℕ → List ℕ
to_come d r = alternate true d r

abbrev pub words_to_come : ℕ → ℕ → Bits
words_to_come d r = turn (spelled words1983 (to_come d r))

-- the words still to come fit behind what is written
pub record Room (d r : ℕ) (line : Bits) (quotients : ℕ) : Type 0 where
  pub turned : r < d
  pub range : d < 2 ^ 32
  pub some : 1 ≤ length line
  pub room : length line + length (words_to_come d r) ≤ 96
  pub few : quotients + length (to_come d r) ≤ 46
