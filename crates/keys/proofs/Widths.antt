-- How far apart the values of two strings can be that agree in their first bits: the arithmetic, on numbers alone. The
-- last two convergents have the denominators v and, before it, u; what is still to come has the values n/d and n'/d'.
use Rattle.std.specs.Prelude.{◌≡◌, Bool, true, false, cond, ◌⊎◌, ℕ, zero, suc, ◌+◌, ◌*◌, ◌^◌, ◌≤◌, ◌<◌}
use Rattle.std.proofs.Common.{ap, inl, inr, pow-suc, add-suc, add-zero, eq-zero-or-pos, lt_of_lt_of_le, mul-pos, mul-le-mul, mul-le-mul_left, mul-le-mul_right, mul-lt-mul_of_pos_right, arith, pow_pos}
use Rattle.std.proofs.Math.Nat.{mul-lt-mul_of_pos_left, le_of_mul-le-mul_left, lt_of_mul-lt-mul_left}

run-step : (T Y u v : ℕ) → u ≤ v → 1 ≤ Y → T * (v + u) ≤ Y * (Y * v + u)
    → T * 3 * (v + u) ≤ Y * 2 * (Y * 2 * v + u)
run-step T Y u v h k e =
    let w : u ≤ Y * v = omega (arith, mul-le-mul_right v k) in omega (arith, mul-le-mul_left Y w)

-- a run of k ones leaves the values from 2^k on: of the width at most two thirds for each of them
pub run_width : (k u v : ℕ) → u ≤ v → 3 ^ k * (v + u) ≤ 2 ^ k * (2 ^ k * v + u)
run_width zero u v h = omega arith
run_width (suc k) u v h = rw (pow-suc 3 k, pow-suc 2 k) (run-step (3 ^ k) (2 ^ k) u v h (pow_pos k) (run_width k u v h))

-- its zero leaves at most two thirds of that
stop_step : (T Y u v : ℕ) → 1 ≤ v → 1 ≤ Y → T * (v + u) ≤ Y * (Y * v + u)
    → T * 3 * (v * (v + u)) * Y < Y * 2 * ((Y * v + u) * ((Y + Y) * v + u))
stop_step T Y u v h k e =
    let b : 0 < Y * v + u = omega (arith, mul-pos k h) in
    let c : 0 < v * Y + 2 * u = omega (arith, mul-pos h k) in
    omega (arith, mul-le-mul_left (3 * v * Y) e, mul-pos (mul-pos k b) c)

-- and so does a digit, which leaves H of 2H numbers
digit_step : (T P W A Y H u v : ℕ) → 2 * H ≤ Y → T * W * (2 * H) < P * (A * ((Y + 2 * H) * v + u))
    → T * 3 * W * H < P * 2 * (A * ((Y + H) * v + u))
digit_step T P W A Y H u v h e =
    let w : 3 * ((Y + 2 * H) * v + u) ≤ 4 * ((Y + H) * v + u) = omega (arith, mul-le-mul_right v h) in
    omega (arith, mul-le-mul_left (P * A) w)

-- after the stopped run of r ones, and j digits, H numbers are left
pub digit_width : (j r H u v : ℕ) → u ≤ v → 1 ≤ v → H * 2 ^ j ≡ 2 ^ r
    → 3 ^ (suc r + j) * (v * (v + u)) * H < 2 ^ (suc r + j) * ((2 ^ r * v + u) * ((2 ^ r + H) * v + u))
digit_width zero r H u v h k e =
    let q : H ≡ 2 ^ r = omega arith in
    rw (q, add-zero, pow-suc 3 r, pow-suc 2 r) (stop_step (3 ^ r) (2 ^ r) u v k (pow_pos r) (run_width r u v h))
digit_width (suc j) r H u v h k e =
    let q : 2 * H * 2 ^ j ≡ 2 ^ r = omega (arith, ap (λ (x : ℕ). H * x) (pow-suc 2 j)) in
    rw (add-suc, pow-suc 3 (suc r + j), pow-suc 2 (suc r + j))
    (digit_step (3 ^ (suc r + j)) (2 ^ (suc r + j)) (v * (v + u)) (2 ^ r * v + u) (2 ^ r) H u v
    (omega (arith, mul-le-mul_left (2 * H) (pow_pos j))) (digit_width j r (2 * H) u v h k q))

-- two values in reach of a run, n/d and n'/d', where n'/d' is at least Y: either it is above Y, or neither is infinite
far-apart : (z : Bool) (Y u v n d n' d' x : ℕ) → 1 ≤ v → 1 ≤ Y → 1 ≤ n
    → x + cond z 0 1 ≤ n * d' → Y * d' + cond z 1 0 ≤ n'
    → (Y * v + u) * (v * x) < (v * n + u * d) * (v * n' + u * d')
far-apart true Y u v n d n' d' x h k i a b =
    let f : Y * d' < n' = omega arith in
    let e : x ≤ n * d' = omega arith in
    omega (arith, mul-le-mul_left ((Y * v + u) * v) e, mul-lt-mul_of_pos_left f (mul-pos (mul-pos h i) h))
far-apart false Y u v n d n' d' x h k i a b =
    let f : Y * d' ≤ n' = omega arith in
    let e : x < n * d' = omega arith in
    let w : 0 < Y * v + u = omega (arith, mul-pos k h) in
    omega (arith, mul-lt-mul_of_pos_left e (mul-pos w h), mul-le-mul_left (v * n * v) f)

pub near-run : (z : Bool) (T Y u v n d n' d' x : ℕ) → 1 ≤ v → 1 ≤ Y → 1 ≤ n
    → x + cond z 0 1 ≤ n * d' → Y * d' + cond z 1 0 ≤ n'
    → T * (v + u) ≤ Y * (Y * v + u) → T * (v * (v + u)) * x < Y * ((v * n + u * d) * (v * n' + u * d'))
near-run z T Y u v n d n' d' x h k i a b w =
    omega (arith, mul-le-mul_right (v * x) w, mul-lt-mul_of_pos_left (far-apart z Y u v n d n' d' x h k i a b) k)

-- values from A to B, seen as Q/D and Q'/D', are at most as far apart as A and B are
block-apart : (A B H v Q Q' D D' x : ℕ) → 1 ≤ v → B ≡ A + H * v → A * D' ≤ Q' → Q ≤ B * D → Q * D' ≡ Q' * D + v * x
    → A * B * x ≤ H * (Q * Q')
block-apart A B H v Q Q' D D' x k b low high e =
    le_of_mul-le-mul_left {k = v}
    (omega (
      arith,
      mul-le-mul_left (B * Q) low,
      mul-le-mul_left (A * Q') high,
      ap (λ (y : ℕ). A * B * y) e,
      ap (λ (y : ℕ). y * (Q * Q')) b,
    )) k

pub near-block : (T P W A B H v Q Q' D D' x : ℕ) → 1 ≤ v → 1 ≤ P → 1 ≤ Q → 1 ≤ Q'
    → B ≡ A + H * v → T * W * H < P * (A * B) → A * D' ≤ Q' → Q ≤ B * D → (0 < x → Q * D' ≡ Q' * D + v * x)
    → T * W * x < P * (Q * Q')
near-block T P W A B H v Q Q' D D' x k h i j b w low high e = by_size (eq-zero-or-pos x)
  where
    by_size : (x ≡ 0) ⊎ (0 < x) → T * W * x < P * (Q * Q')
    by_size (inl o) = rw o (omega (arith, mul-pos h (mul-pos i j)))
    by_size (inr o) =
        let near : A * B * x ≤ H * (Q * Q') = block-apart A B H v Q Q' D D' x k b low high (e o) in
        lt_of_mul-lt-mul_left H (omega (arith, mul-lt-mul_of_pos_right w o, mul-le-mul_left P near))

-- what n/d is above n'/d', seen as Q/D and Q'/D'
pub seen-apart : (u v n d n' d' x : ℕ) → n * d' ≡ n' * d + x → (v * n + u * d) * d' ≡ (v * n' + u * d') * d + v * x
seen-apart u v n d n' d' x e = omega (arith, ap (λ (y : ℕ). v * y) e)

-- a whole word, and then what follows it
pub near_on : (t p T P W X x R : ℕ) → 1 ≤ p → t * W * 1 < p * X → T * X * x < P * R → t * T * W * x < p * P * R
near_on t p T P W X x R h w e =
    let k : t * W ≤ p * X = omega arith in omega (arith, mul-le-mul_left (T * x) k, mul-lt-mul_of_pos_left e h)

-- what is below the product at Y is below it at A
pub wider : (M P Y A H u v : ℕ) → Y ≤ A → M < P * ((Y * v + u) * ((Y + H) * v + u))
    → M < P * ((A * v + u) * ((A + H) * v + u))
wider M P Y A H u v h m =
    let w : Y * v ≤ A * v = mul-le-mul_right v h in
    let c : Y * v + u ≤ A * v + u = omega arith in
    let d : (Y + H) * v + u ≤ (A + H) * v + u = omega arith in
    lt_of_lt_of_le m (mul-le-mul_left P (mul-le-mul c d))
