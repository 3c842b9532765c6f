-- A number with its lowest digit set has the same highest one.
use Rattle.std.specs.Prelude.{◌≡◌, ℕ, zero, suc, ◌+◌, ◌*◌, ◌/◌, ◌%◌, ◌^◌, ◌≤◌}
use Rattle.std.proofs.Common.{◌∙◌, arith, pow-suc}
use Rattle.std.proofs.Math.Nat.{max-eq_right}
use Rattle.std.specs.Int.Bits.{bit_or, or_step, or_zero_r}
use Rattle.spell.proofs.line.highest.Goals as goal

odd : (a : ℕ) → bit_or a 1 ≡ a / 2 * 2 + 1
odd a = or_step a 1 ∙ rw (or_zero_r, max-eq_right {n = a % 2} {m = 1} (omega arith))

top_digit : (a k : ℕ) → 1 ≤ a → 2 ^ k ≤ a / 2 * 2 + 1 → 2 ^ k ≤ a
top_digit a zero some h = some
top_digit a (suc k) some h = omega (arith, pow-suc 2 k)

pub ilog2-requires : goal.ilog2-requires
ilog2-requires c = omega (arith, odd c.args.a)

pub returns-clause-power_le : goal.returns-clause-power_le
returns-clause-power_le c = top_digit c.args.a _ c.requires (rw odd at c.ilog2.ensures.power_le)

pub returns-clause-next_power_gt : goal.returns-clause-next_power_gt
returns-clause-next_power_gt c = omega (arith, odd c.args.a, c.ilog2.ensures.next_power_gt)
