-- Values that are near. Two ratios x and y, still to come after the last two convergents, make two values that are less
-- apart than the widest two there, times two thirds taken k times as a factor; in whole numbers.
use Rattle.std.specs.Prelude.{◌≡◌, Bool, true, false, not, cond, ℕ, suc, ◌+◌, ◌*◌, ◌-◌, ◌^◌, ◌≤◌, ◌<◌}
use Rattle.std.proofs.Common.{mul-pos, mul-le-mul_left, mul-le-mul_right, mul_comm, arith, pow_pos, pow-add}
use Rattle.families.proofs.Meeting.{Block}
use Rattle.fractions.specs.Fractions.{Ratio, onto}
use Rattle.fractions.proofs.Lists.{Spread, spread-positive, spread_proper}
use Rattle.keys.proofs.Widths.{run_width, digit_width, near-run, near-block, seen-apart, near_on, wider}

-- the denominators of the last two convergents
pub record Denominators : Type 0 where
  pub before : ℕ
  pub last : ℕ
  pub rising : before ≤ last
  pub positive : 1 ≤ last

-- and after a quotient a more
abbrev pub after : (a : ℕ) → 1 ≤ a → Denominators → Denominators
after a h D = record {
  before = D.last;
  last = a * D.last + D.before;
  rising = omega (arith, mul-le-mul_right D.last h);
  positive = omega (arith, mul-le-mul_right D.last h, D.positive);
}

-- the denominator that x, still to come, will make
abbrev seen : Denominators → Ratio → ℕ
seen D x = D.last * x.num + D.before * x.den

-- by how much x is above y, times both denominators; as much, up or down, as the values that they make
abbrev pub apart : Ratio → Ratio → ℕ
apart x y = x.num * y.den - y.num * x.den

-- the widest two values, where any x from 1 to infinity may come, are one over this apart
abbrev widest : Denominators → ℕ
widest D = D.last * (D.last + D.before)

abbrev pub Near : ℕ → Denominators → Ratio → Ratio → Type 0
Near k D x y = 3 ^ k * widest D * apart x y < 2 ^ k * (seen D x * seen D y)

-- x is at least 2^k, and above it where it may be infinite
abbrev pub Far : Bool → ℕ → Ratio → Type 0
Far z k x = 2 ^ k * x.den + cond z 1 0 ≤ x.num

pub far-onto : (z : Bool) (k a : ℕ) (x : Ratio) → Spread (not z) x → 2 ^ k ≤ a → Far z k (onto a x)
far-onto true k a x s h = omega (arith, mul-le-mul_right x.num h)
far-onto false k a x s h = omega (arith, mul-le-mul_right x.num h)

apart-room : (z : Bool) (x y : Ratio) → Spread z x → Spread z y → apart x y + cond z 0 1 ≤ x.num * y.den
apart-room true x y s t = omega arith
apart-room false x y s t =
    omega (arith, mul-pos (spread-positive false x s) t.low, mul-pos (spread-positive false y t) s.low)

-- two values in reach of one run of k
pub near-far : (k : ℕ) (D : Denominators) (z : Bool) (x y : Ratio) → Spread z x → Spread z y → Far z k y → Near k D x y
near-far k D z x y s t f =
    near-run z (3 ^ k) (2 ^ k) D.before D.last x.num x.den y.num y.den (apart x y)
    D.positive (pow_pos k) (spread-positive z x s) (apart-room z x y s t) f
    (run_width k D.before D.last D.rising)

-- x lies from A to A + H
record Within (A H : ℕ) (x : Ratio) : Type 0 where
  low : A * x.den ≤ x.num
  high : x.num ≤ (A + H) * x.den
  positive : 1 ≤ x.num

within-onto : (z : Bool) (A H r a : ℕ) (x : Ratio) → Block A H r a → Spread z x → Within A H (onto a x)
within-onto z A H r a x b s =
    let n : 1 ≤ x.num = spread-positive z x s in
    let c : 1 ≤ a = omega (arith, b.first, b.low, pow_pos r) in
    record {
      low = omega (arith, mul-le-mul_right x.num b.low);
      high = omega (arith, mul-le-mul_right x.num b.high, spread_proper z x s);
      positive = omega (arith, mul-pos c n);
    }

seen-positive : (D : Denominators) (x : Ratio) → 1 ≤ x.num → 1 ≤ seen D x
seen-positive D x h = omega (arith, mul-pos D.positive h)

-- two values in one block
near-within : (k : ℕ) (D : Denominators) (A H : ℕ) (x y : Ratio)
    → 3 ^ k * widest D * H < 2 ^ k * ((A * D.last + D.before) * ((A + H) * D.last + D.before))
    → Within A H x → Within A H y → Near k D x y
near-within k D A H x y w s t =
    let u = D.before in
    let v = D.last in
    near-block (3 ^ k) (2 ^ k) (widest D) (A * v + u) ((A + H) * v + u) H v
    (seen D x) (seen D y) x.den y.den (apart x y)
    D.positive (pow_pos k) (seen-positive D x s.positive) (seen-positive D y t.positive)
    (omega arith) w (omega (arith, mul-le-mul_left v t.low)) (omega (arith, mul-le-mul_left v s.high))
    (λ h. seen-apart u v x.num x.den y.num y.den (apart x y) (omega arith))

-- after a stopped run of r ones and j digits, what is left of the width where a block of H numbers from A on is left
block_width : (j r A H : ℕ) (D : Denominators) → H * 2 ^ j ≡ 2 ^ r → 2 ^ r ≤ A
    → 3 ^ (suc r + j) * widest D * H < 2 ^ (suc r + j) * ((A * D.last + D.before) * ((A + H) * D.last + D.before))
block_width j r A H D e h =
    wider (3 ^ (suc r + j) * widest D * H) (2 ^ (suc r + j)) (2 ^ r) A H D.before D.last h
    (digit_width j r H D.before D.last D.rising D.positive e)

-- two values whose words agree in the run of r ones, its zero and j digits
pub near-digits : (z : Bool) (j r A H a b : ℕ) (D : Denominators) (x y : Ratio) → H * 2 ^ j ≡ 2 ^ r
    → Block A H r a → Block A H r b → Spread z x → Spread z y → Near (suc r + j) D (onto a x) (onto b y)
near-digits z j r A H a b D x y e c d s t =
    near-within (suc r + j) D A H (onto a x) (onto b y) (block_width j r A H D e c.first)
    (within-onto z A H r a x c s) (within-onto z A H r b y d t)

apart-onto : (a : ℕ) (x y : Ratio) → apart (onto a x) (onto a y) ≡ apart y x
apart-onto a x y = omega arith

seen-onto : (a : ℕ) (h : 1 ≤ a) (D : Denominators) (x : Ratio) → seen D (onto a x) ≡ seen (after a h D) x
seen-onto a h D x = omega arith

-- two values that begin with one whole word, of a: what follows it is as near as after it
pub near-next : (r a i : ℕ) (h : 1 ≤ a) (D : Denominators) (x y : Ratio) → 2 ^ r ≤ a → Near i (after a h D) y x
    → Near (suc r + r + i) D (onto a x) (onto a y)
near-next r a i h D x y l n =
    let E = after a h D in
    rw (apart-onto a x y, seen-onto a h D x, seen-onto a h D y, pow-add 3 (suc r + r) i, pow-add 2 (suc r + r) i)
    (near_on (3 ^ (suc r + r)) (2 ^ (suc r + r)) (3 ^ i) (2 ^ i) (widest D) (widest E) (apart y x) (seen E x * seen E y)
    (pow_pos (suc r + r)) whole (rw (mul_comm (seen E y) (seen E x)) at n))
  where
    whole : 3 ^ (suc r + r) * widest D * 1 < 2 ^ (suc r + r) * widest (after a h D)
    whole =
        let e : a * D.last + D.before + D.last ≡ (a + 1) * D.last + D.before = omega arith in
        rw e (block_width r r a 1 D (omega arith) l)
