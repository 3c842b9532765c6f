-- The ones in front of a 64-bit number w, counted up to 32, and what a word with which its bits begin makes of them.
use Rattle.std.specs.Prelude.{◌≡◌, ℕ, suc, ◌+◌, ◌*◌, ◌-◌, ◌/◌, ◌%◌, ◌^◌, ◌≤◌, ◌<◌}
use Rattle.std.proofs.Common.{◌∙◌, ap, pow-suc, mul-le-mul_right, mul-lt-mul_of_pos_right, arith, pow-add, pow_mono, pow_pos, shr_lt}
use Rattle.std.proofs.Math.Decide.{dec_lt}
use Rattle.std.proofs.Math.Arith.{digits_div, digits_mod}

-- r is the number of ones in front of w, counted up to 32
pub record Counted (w r : ℕ) : Type 0 where
  pub most : r ≤ 32
  -- the first r bits are ones
  pub ones : 2 ^ 64 * 2 ^ r ≤ w * 2 ^ r + 2 ^ 64
  -- and where there are fewer than 32, a zero follows
  pub stopped : r < 32 → w * 2 ^ r + 2 ^ 63 < 2 ^ 64 * 2 ^ r

-- the number that the code reads from w and its run
abbrev pub number_read : ℕ → ℕ → ℕ
number_read w r = ((w * 2 ^ r) % 2 ^ 64 + 2 ^ 63) / 2 ^ (63 - r)

-- the word of a number a stands in front of bits of the value E: together they are w. P is the power of two of the
-- word's run, F that of the bits behind it, N is 2 ^ 64 and H its half
pub record Front (P F H N a E w : ℕ) : Type 0 where
  pub half : P * P * F ≡ H
  pub whole : 2 * H ≡ N
  pub made : w + 3 * P * F ≡ a * F + N + E
  pub low : P ≤ a
  pub high : a < 2 * P
  pub small : E < F
  pub some : 1 ≤ P

-- what is left of w, shifted by its run, is w without the ones
shifted : (R N w left : ℕ) → 1 ≤ R → left < N → w * R + N ≡ left + N * R → (w * R) % N ≡ left
shifted R N w left h l e =
    let q = R - 1 in
    let next : q + 1 ≡ R = omega arith in
    let front : w * R ≡ q * N + left = omega (arith, ap (λ (x : ℕ). x * N) next) in
    ap (λ (x : ℕ). x % N) front ∙ digits_mod q l

-- one more one counted: what is left of w after n ones, where R = 2 ^ n, is shifted once more
pub next_one : (R N H w left : ℕ) → 2 * H ≡ N → w < N → 1 ≤ R → H ≤ left → left + N * R ≡ w * R + N
    → (left * 2) % N + N * (R * 2) ≡ w * (R * 2) + N
next_one R N H w left whole h some l e =
    let less : w * R + R ≤ N * R = omega (arith, mul-le-mul_right {m = w + 1} {n = N} R (omega arith)) in
    let next = left * 2 - N in
    omega (arith, shifted 2 N left next (omega arith) (omega arith) (omega arith))

pub shifted_small : {w r : ℕ} → Counted w r → r < 32 → (w * 2 ^ r) % 2 ^ 64 < 2 ^ 63
shifted_small {w} {r} c h =
    let left = w * 2 ^ r + 2 ^ 64 - 2 ^ 64 * 2 ^ r in
    let small : left < 2 ^ 63 = omega (arith, c.stopped h) in
    omega (arith, shifted (2 ^ r) (2 ^ 64) w left (pow_pos r) (omega arith) (omega (arith, c.ones)))

pub read-fits : {w r : ℕ} → Counted w r → r < 32 → number_read w r < 2 ^ 32
read-fits {w} {r} c h =
    shr_lt 32 (63 - r) (omega (arith, shifted_small c h, pow_mono {i = 64} {j = 32 + (63 - r)} (omega arith)))

-- where the first 32 bits are ones, 32 are counted
pub counted_many : {w r : ℕ} → Counted w r → 2 ^ 64 ≤ w + 2 ^ 32 → r ≡ 32
counted_many {w} {r} c h = by_size (dec_lt r 32)
  where
    by_size : Dec (r < 32) → r ≡ 32
    by_size (yes l) =
        absurd (omega (arith, c.stopped l, mul-le-mul_right (2 ^ r) h, pow_mono {i = r} {j = 31} (omega arith)))
    by_size (no l) = omega (arith, c.most)

module _ {P F H N a E w : ℕ} (it : Front P F H N a E w) where
  run_short : (R : ℕ) → w * R + H < N * R → 2 * R ≤ P → ⊥
  run_short R h l =
      omega (
        arith,
        ap (λ (x : ℕ). x * R) it.made,
        mul-le-mul_right (F * R) it.low,
        mul-le-mul_right (P * F) l,
      )

  run_long : (R : ℕ) → N * R ≤ w * R + N → 2 * P ≤ R → ⊥
  run_long R h l =
      omega (
        arith,
        ap (λ (x : ℕ). x * R) it.made,
        mul-le-mul_right {m = a + 1} {n = 2 * P} (F * R) (omega arith),
        mul-le-mul_right {m = E + 1} {n = F} R (omega arith),
        mul-le-mul_right (P * F) l,
      )

  front-read : ((w * P) % N + H) / (F * P) ≡ a
  front-read =
      ap (λ (x : ℕ). (x + H) / (F * P)) (shifted P N w left it.some under front)
      ∙ ap (λ (x : ℕ). x / (F * P)) from-front ∙ digits_div a (mul-lt-mul_of_pos_right it.small it.some)
    where
      left : ℕ
      left = a * (F * P) + E * P - H

      from-front : left + H ≡ a * (F * P) + E * P
      from-front = omega (arith, mul-le-mul_right (F * P) it.low)

      under : left < N
      under =
          omega (
            arith,
            from-front,
            mul-le-mul_right {m = a + 1} {n = 2 * P} (F * P) (omega arith),
            mul-lt-mul_of_pos_right it.small it.some,
          )

      front : w * P + N ≡ left + N * P
      front = omega (arith, from-front, ap (λ (x : ℕ). x * P) it.made)

-- the same in powers of two: k is the run of a word that fits 64 bits
module _ (k : ℕ) (few : k < 32) {a E w : ℕ} (it : Front (2 ^ k) (2 ^ (63 - 2 * k)) (2 ^ 63) (2 ^ 64) a E w) where
  -- what is counted is the word's run
  pub run-counted : {r : ℕ} → Counted w r → r ≡ k
  run-counted {r} c = by_size (dec_lt r k) (dec_lt k r)
    where
      by_size : Dec (r < k) → Dec (k < r) → r ≡ k
      by_size (yes l) d =
          let under : 2 * 2 ^ r ≤ 2 ^ k = omega (arith, pow-suc 2 r, pow_mono {i = suc r} {j = k} l) in
          absurd (run_short it (2 ^ r) (c.stopped (omega arith)) under)
      by_size (no m) (yes l) =
          absurd (run_long it (2 ^ r) c.ones (omega (arith, pow-suc 2 k, pow_mono {i = suc k} {j = r} l)))
      by_size (no m) (no l) = omega arith

  -- and what is read is its number
  pub word-read : number_read w k ≡ a
  word-read =
      let places : 63 - k ≡ 63 - 2 * k + k = omega arith in
      ap (λ (n : ℕ). ((w * 2 ^ k) % 2 ^ 64 + 2 ^ 63) / 2 ^ n) places
      ∙ rw (pow-add 2 (63 - 2 * k) k) (front-read it)
