-- The next convergent in one number: it is 0 where the convergent is over the limit, and gives its terms back where it
-- isn't.
use Rattle.std.specs.Prelude.{◌≡◌, Bool, ◌||◌, ◌⊎◌, ℕ, ◌+◌, ◌*◌, ◌^◌, ◌≤◌, ◌<◌, ltb}
use Rattle.std.proofs.Math.Path.{refl, ap}
use Rattle.std.proofs.Common.{◌∙◌, true≢false, inl, inr, mul-le-mul, arith, lt-ltb, le-ltb, ltb-false}
use Rattle.std.proofs.Math.Bool.{true, false, cond, or-true}
use Rattle.std.proofs.Math.Pow.{high, low}
use Rattle.fractions.specs.Fractions.{Ratio, ◌over◌}
use Rattle.keys.specs.Size.{limit}
use Rattle.read.specs.Finding.{packed, ratio_in, is_over, limited}

-- a term of the next convergent fits in 64 bits
pub term_fits : (a x y : ℕ) → a ≤ limit → x ≤ limit → y ≤ limit → a * x + y < 2 ^ 64
term_fits a x y h k l = omega (arith, mul-le-mul h k)

-- a ratio is over the limit if one of its terms is
pub term_over : (r : Ratio) → (limit < r.num) ⊎ (limit < r.den) → is_over r ≡ true
term_over r (inl h) = rw (lt-ltb limit r.num h) refl
term_over r (inr h) = rw (lt-ltb limit r.den h) (or-true (ltb limit r.num))

pub not_over : (r : Ratio) → r.num ≤ limit → r.den ≤ limit → is_over r ≡ false
not_over r h k = rw (le-ltb limit r.num h, le-ltb limit r.den k) refl

-- a ratio that isn't over the limit has both terms within it
pub within : (r : Ratio) → is_over r ≡ false → (r.num ≤ limit) × (r.den ≤ limit)
within r e = by_tests (ltb limit r.num) (ltb limit r.den) refl refl e
  where
    by_tests : (b o : Bool) → ltb limit r.num ≡ b → ltb limit r.den ≡ o → (b || o) ≡ false
        → (r.num ≤ limit) × (r.den ≤ limit)
    by_tests true o p q e = absurd (true≢false e)
    by_tests false true p q e = absurd (true≢false e)
    by_tests false false p q e = (ltb-false limit r.num p, ltb-false limit r.den q)

pub ratio-packed : (r : Ratio) → r.num ≤ limit → ratio_in (packed r) ≡ r
ratio-packed r h =
    let l : r.num < 2 ^ 32 = omega arith in λ i. (low r.den 32 l i) over (high r.den 32 l i)

module _ (w : Ratio) where
  pub limited_over : (limit < w.num) ⊎ (limit < w.den) → 0 ≡ limited w
  unfolding limited
  limited_over h = rw (term_over w h) refl

  pub limited_within : w.num ≤ limit → w.den ≤ limit → packed w ≡ limited w
  unfolding limited
  limited_within h k = rw (not_over w h k) refl

-- n is w or, if that is over the limit, 0
module _ {n : ℕ} (w : Ratio) (e : n ≡ limited w) where
  -- 0/0 alone would be 0 without being over the limit
  pub none_over : 1 ≤ w.num + w.den → n ≡ 0 → is_over w ≡ true
  unfolding limited
  none_over h z = by_test (is_over w) e
    where
      by_test : (o : Bool) → n ≡ cond o 0 (packed w) → o ≡ true
      by_test true e = refl
      by_test false e = absurd (omega arith)

  pub some-within : 1 ≤ n → (is_over w ≡ false) × (ratio_in n ≡ w)
  unfolding limited
  some-within h = by_test (is_over w) refl e
    where
      by_test : (o : Bool) → is_over w ≡ o → n ≡ cond o 0 (packed w) → (o ≡ false) × (ratio_in n ≡ w)
      by_test true f e = absurd (omega arith)
      by_test false f e = (refl, ap ratio_in e ∙ ratio-packed w (within w f).0)
