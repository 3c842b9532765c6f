-- The binary digits of a number, counted by leading zeros.
use Rattle.std.specs.Prelude.{◌≡◌, ℕ, suc, ◌+◌, ◌*◌, ◌/◌, ◌%◌, ◌^◌, ◌≤◌, ◌<◌}
use Rattle.std.proofs.Common.{◌∙◌, arith}
use Rattle.std.proofs.Math.Nat.{max-eq_right}
use Rattle.std.specs.Int.Bits.{bit_or, or_step, or_zero_r}
use Rattle.std.specs.Int.Count.{count_leading_zeros}
use Rattle.std.proofs.lemmas.Nat.{leading_top}

-- a with its lowest digit set has as many digits
odd : (a : ℕ) → bit_or a 1 ≡ a / 2 * 2 + 1
odd a = or_step a 1 ∙ rw (or_zero_r, max-eq_right {n = a % 2} {m = 1} (omega arith))

module _ (a : ℕ) (some : 1 ≤ a) (few : a < 2 ^ 32) where
  abbrev zeros : ℕ
  zeros = count_leading_zeros 32 (bit_or a 1)

  -- the highest digit of a
  top : (j : ℕ) × (zeros + suc j ≡ 32) × (2 ^ j ≤ a / 2 * 2 + 1) × (a / 2 * 2 + 1 < 2 ^ suc j)
  top = rw odd (leading_top 32 (a / 2 * 2 + 1) (omega arith) (omega arith))

  pub zeros_few : zeros ≤ 31
  zeros_few = omega (arith, top.1)
