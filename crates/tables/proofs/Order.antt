-- Ratios by cross products: how a row stands to p/q, and what sound rows are, as facts.
use Rattle.std.specs.Prelude.{◌≡◌, refl, Bool, true, false, not, ◌&&◌, List, [], ◌∷◌, ◌++◌, ℕ, zero, suc, ◌*◌, ◌≤◌, ◌<◌, eqb, drop}
use Rattle.std.proofs.Common.{ap, mul-le-mul_right, mul-lt-mul_of_pos_right, arith, lt-ltb, le-ltb, ltb-true, eq-eqb, ne_eqb}
use Rattle.std.proofs.lemmas.Bool.{false≢true, eqb-false}
use Rattle.std.proofs.Math.Decide.{dec_lt}
use Rattle.std.proofs.Math.Seq.{drop-nil}
use Rattle.fractions.specs.Fractions.{gcd}
use Rattle.tables.specs.declared.Row.{Row}
use Rattle.tables.specs.Sound.{is_row, row_below, sound_behind, sound}
use Rattle.tables.specs.Stocks.{is_below, is_of}
use Rattle.tables.specs.Order.{Above, Sound}

-- a/b is at most c/d, which is below e/f
pub cross_below : (a b c d e f : ℕ) → 1 ≤ b → a * d ≤ c * b → c * f < e * d → a * f < e * b
cross_below a b c d e f h l m = by_size (dec_lt (a * f) (e * b))
  where
    by_size : Dec (a * f < e * b) → a * f < e * b
    by_size (yes x) = x
    by_size (no x) =
        let y : e * b ≤ a * f = omega arith in
        absurd (omega (arith, mul-le-mul_right f l, mul-lt-mul_of_pos_right m h, mul-le-mul_right d y))

-- a/b is below c/d, which is e/f
pub below_equal : (a b c d e f : ℕ) → 1 ≤ f → a * d < c * b → e * d ≡ c * f → a * f < e * b
below_equal a b c d e f h l m = by_size (dec_lt (a * f) (e * b))
  where
    by_size : Dec (a * f < e * b) → a * f < e * b
    by_size (yes x) = x
    by_size (no x) =
        let y : e * b ≤ a * f = omega arith in
        absurd (omega (arith, mul-lt-mul_of_pos_right l h, mul-le-mul_right d y, ap (λ (z : ℕ). z * b) m))

mul_cancel : (d x y : ℕ) → 1 ≤ d → x * d ≡ y * d → x ≡ y
mul_cancel d x y h e = by_size (dec_lt x y) (dec_lt y x)
  where
    by_size : Dec (x < y) → Dec (y < x) → x ≡ y
    by_size (yes k) n = absurd (omega (arith, mul-lt-mul_of_pos_right k h))
    by_size (no k) (yes n) = absurd (omega (arith, mul-lt-mul_of_pos_right n h))
    by_size (no k) (no n) = omega arith

-- a/b is c/d, which is e/f
pub cross_equal : (a b c d e f : ℕ) → 1 ≤ d → a * d ≡ c * b → c * f ≡ e * d → a * f ≡ e * b
cross_equal a b c d e f h l m =
    mul_cancel d (a * f) (e * b) h (omega (arith, ap (λ (z : ℕ). z * f) l, ap (λ (z : ℕ). z * b) m))

-- how a row stands to p/q, with the answers of both tests
pub data Stands (p q : ℕ) (r : Row) : Type 0 where
  below : r.numerator * q < p * r.denominator → is_below p q r ≡ true → is_of p q r ≡ false → Stands p q r
  equal : r.numerator * q ≡ p * r.denominator → is_below p q r ≡ false → is_of p q r ≡ true → Stands p q r
  above : p * r.denominator < r.numerator * q → is_below p q r ≡ false → is_of p q r ≡ false → Stands p q r

pub stands : (p q : ℕ) (r : Row) → Stands p q r
stands p q r = by_order (dec_lt x y) (dec_lt y x)
  where
    x : ℕ
    x = r.numerator * q

    y : ℕ
    y = p * r.denominator

    by_order : Dec (x < y) → Dec (y < x) → Stands p q r
    by_order (yes l) m = below l (lt-ltb x y l) (ne_eqb x y (λ z. omega arith))
    by_order (no l) (yes m) = above m (le-ltb x y (omega arith)) (ne_eqb x y (λ z. omega arith))
    by_order (no l) (no m) = equal (omega arith) (le-ltb x y (omega arith)) (eq-eqb x y (omega arith))

pub above-more : (p q r s : ℕ) (l : List Row) → 1 ≤ q → p * s ≤ r * q → Above r s l → Above p q l
above-more p q r s [] h e a = tt
above-more p q r s (x ∷ l) h e (f, a) =
    (cross_below p q r s x.numerator x.denominator h e f, above-more p q r s l h e a)

pub and_parts : (a b : Bool) → (a && b) ≡ true → (a ≡ true) × (b ≡ true)
and_parts true b e = (refl, e)
and_parts false b e = absurd (false≢true e)

not-true : (a : Bool) → not a ≡ true → a ≡ false
not-true true e = absurd (false≢true e)
not-true false e = refl

-- what a row is, test by test
pub row_parts : (r : Row) → is_row r ≡ true
    → (not (eqb r.denominator 0) ≡ true) × ((eqb (gcd r.numerator r.denominator) 1 ≡ true)
    × (not (eqb r.quantity 0) ≡ true))
row_parts r e =
    let lowest = eqb (gcd r.numerator r.denominator) 1 in
    let full = not (eqb r.quantity 0) in
    let (some, more) = and_parts (not (eqb r.denominator 0)) (lowest && full) e in
    (some, and_parts lowest full more)

not_none : (n : ℕ) → not (eqb n 0) ≡ true → 1 ≤ n
not_none n e = omega (arith, eqb-false n 0 (not-true (eqb n 0) e))

pub row-positive : (r : Row) → is_row r ≡ true → 1 ≤ r.denominator
row-positive r e = not_none r.denominator (row_parts r e).0

pub row-some : (r : Row) → is_row r ≡ true → 1 ≤ r.quantity
row-some r e = not_none r.quantity (row_parts r e).1.1

behind_facts : (r : Row) (l : List Row) → 1 ≤ r.denominator → sound_behind r l ≡ true
    → Above r.numerator r.denominator l × Sound l
unfolding sound_behind
behind_facts r [] h e = (tt, tt)
behind_facts r (s ∷ l) h e =
    let (good, more) = and_parts (is_row s) (row_below r s && sound_behind s l) e in
    let (rise, rest) = and_parts (row_below r s) (sound_behind s l) more in
    let (high, fine) = behind_facts s l (row-positive s good) rest in
    let less = ltb-true (r.numerator * s.denominator) (s.numerator * r.denominator) rise in (
      (less, above-more r.numerator r.denominator s.numerator s.denominator l h (omega arith) high),
      (good, (high, fine)),
    )

pub sound_facts : (l : List Row) → sound l ≡ true → Sound l
unfolding sound
sound_facts [] e = tt
sound_facts (r ∷ l) e =
    let (good, rest) = and_parts (is_row r) (sound_behind r l) e in
    (good, behind_facts r l (row-positive r good) rest)

facts_behind : (r : Row) (l : List Row) → Above r.numerator r.denominator l → Sound l → sound_behind r l ≡ true
unfolding sound_behind
facts_behind r [] a f = refl
facts_behind r (s ∷ l) (less, a) (good, (high, fine)) =
    rw (good, lt-ltb (r.numerator * s.denominator) (s.numerator * r.denominator) less) (facts_behind s l high fine)

pub facts_sound : (l : List Row) → Sound l → sound l ≡ true
unfolding sound
facts_sound [] f = refl
facts_sound (r ∷ l) (good, (high, fine)) = rw good (facts_behind r l high fine)

-- each row of sound ones is one
pub sound-row : (i : ℕ) (l : List Row) {r : Row} {rest : List Row} → Sound l → drop i l ≡ r ∷ rest → is_row r ≡ true
sound-row i [] {r} {rest} f e = let z : ◌≡◌ {A = ℕ} 0 1 = cc (drop-nil i) in absurd (omega arith)
sound-row zero (x ∷ l) {r} {rest} (good, more) e = let same : x ≡ r = cc in rw (← same) good
sound-row (suc i) (x ∷ l) (good, (high, fine)) e = sound-row i l fine e

pub sound_part : (a l : List Row) → Sound (a ++ l) → Sound l
sound_part [] l f = f
sound_part (x ∷ a) l (good, (high, fine)) = sound_part a l fine

-- of rows above p/q one that stands behind others
pub above_part : (p q : ℕ) (a b : List Row) (r : Row) → Above p q (a ++ (r ∷ b)) → p * r.denominator < r.numerator * q
above_part p q [] b r (h, f) = h
above_part p q (x ∷ a) b r (h, f) = above_part p q a b r f
