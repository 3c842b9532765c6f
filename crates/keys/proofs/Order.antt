-- Order, over any family: keys stand as the ratios do by cross products, and are equal only if the ratios are (001, the
-- Lemma of section III and Observation 4).
use Rattle.std.specs.Prelude.{◌≡◌, refl, ◌↔◌, ℕ, ◌*◌, ◌≤◌, ◌<◌}
use Rattle.std.proofs.Common.{sym, inl, inr, mul-pos, arith}
use Rattle.std.proofs.Math.Path.{ap}
use Rattle.std.proofs.Math.Bool.{false}
use mathlib.Core.List.{List}
use Rattle.std.proofs.Math.Nat.{mul-lt-mul_of_pos_left}
use Rattle.bits.specs.Strings.{Bits, ◌≺◌, closed}
use Rattle.bits.proofs.Order.{before-not_equal, before_asym}
use Rattle.bits.proofs.Trim.{closed-order}
use Rattle.families.specs.Families.{Family}
use Rattle.fractions.specs.Fractions.{Ratio, value_of, form_of, gcd}
use Rattle.fractions.proofs.Lists.{Less, Compared, compared, Under, less-under}
use Rattle.fractions.proofs.Euclid.{Scaled, form-scaled}
use Rattle.fractions.proofs.TwoStates.{form-even_ended}
use Rattle.keys.specs.Keys.{written, key_of, Canonical, value_of_key}
use Rattle.keys.proofs.Spelling.{written-order}
use Rattle.keys.proofs.Back.{value_key, value_denominator}

-- ratios stand as their values do
scaled-under : (f g p q r s : ℕ) (u v : Ratio) → Scaled f p q u → Scaled g r s v → Under u v → p * s < r * q
scaled-under f g p q r s u v e d h =
    rw (e.above, e.below, d.above, d.below)
    (omega (arith, mul-lt-mul_of_pos_left h (mul-pos e.positive d.positive)))

scaled-level : (f g p q r s : ℕ) (v : Ratio) → Scaled f p q v → Scaled g r s v → p * s ≡ r * q
scaled-level f g p q r s v e d = rw (e.above, e.below, d.above, d.below) (omega arith)

module _ (F : Family) where
  -- where the even-ended form of p/q stands before that of r/s, so do the keys and the ratios
  less_both : (p q r s : ℕ) → 1 ≤ q → 1 ≤ s → Less (form_of p q) (form_of r s)
      → (key_of F p q ≺ key_of F r s) × (p * s < r * q)
  unfolding key_of
  less_both p q r s hq hs h =
      let l = form_of p q in
      let m = form_of r s in
      let el = form-even_ended p q hq in
      let em = form-even_ended r s hs in (
        closed-order (written F l) (written F m) (written-order F l m el em h),
        scaled-under (gcd p q) (gcd r s) p q r s (value_of l) (value_of m)
            (form-scaled p q hq) (form-scaled r s hs) (less-under false h el em),
      )

  -- one of three cases, each with what follows of keys and ratios
  data Standing (p q r s : ℕ) : Type 0 where
    before : key_of F p q ≺ key_of F r s → p * s < r * q → Standing p q r s
    level : key_of F p q ≡ key_of F r s → p * s ≡ r * q → Standing p q r s
    behind : key_of F r s ≺ key_of F p q → r * q < p * s → Standing p q r s

  module _ (p q r s : ℕ) (hq : 1 ≤ q) (hs : 1 ≤ s) where
    standing : Standing p q r s
    standing = by_lists (compared (form_of p q) (form_of r s))
      where
        by_lists : Compared (form_of p q) (form_of r s) → Standing p q r s
        by_lists (inl h) = let (k, c) = less_both p q r s hq hs h in before k c
        by_lists (inr (inl e)) = level (unfold key_of in ap (λ (l : List ℕ). closed (written F l)) e)
            (scaled-level (gcd p q) (gcd r s) p q r s (value_of (form_of p q))
            (form-scaled p q hq) (rw e (form-scaled r s hs)))
        by_lists (inr (inr h)) = let (k, c) = less_both r s p q hs hq h in behind k c

    pub key-order : (key_of F p q ≺ key_of F r s) ↔ (p * s < r * q)
    key-order = (forth standing, back standing)
      where
        forth : Standing p q r s → key_of F p q ≺ key_of F r s → p * s < r * q
        forth (before k c) h = c
        forth (level e c) h = absurd (before-not_equal false (key_of F p q) (key_of F r s) h e)
        forth (behind k c) h = absurd (before_asym false (key_of F p q) (key_of F r s) h k)

        back : Standing p q r s → p * s < r * q → key_of F p q ≺ key_of F r s
        back (before k c) h = k
        back (level e c) h = absurd (omega arith)
        back (behind k c) h = absurd (omega arith)

    pub key_equal : (key_of F p q ≡ key_of F r s) ↔ (p * s ≡ r * q)
    key_equal = (forth standing, back standing)
      where
        forth : Standing p q r s → key_of F p q ≡ key_of F r s → p * s ≡ r * q
        forth (before k c) e = absurd (before-not_equal false (key_of F p q) (key_of F r s) k e)
        forth (level e c) h = c
        forth (behind k c) e = absurd (before-not_equal false (key_of F r s) (key_of F p q) k (sym e))

        back : Standing p q r s → p * s ≡ r * q → key_of F p q ≡ key_of F r s
        back (before k c) h = absurd (omega arith)
        back (level e c) h = e
        back (behind k c) h = absurd (omega arith)

  -- p/q and any multiple have one key
  pub key_multiple : (c p q : ℕ) → 1 ≤ c → 1 ≤ q → key_of F (c * p) (c * q) ≡ key_of F p q
  key_multiple c p q h k = (key_equal (c * p) (c * q) p q (mul-pos h k) k).1 (omega arith)

  -- canonical keys stand as their values do
  pub value_order : (k j : Bits) → Canonical k → Canonical j → (k ≺ j) ↔ Under (value_of_key F k) (value_of_key F j)
  value_order k j c d =
      let u = value_of_key F k in
      let v = value_of_key F j in
      rw (value_key F k u.num u.den c refl, value_key F j v.num v.den d refl) at
      (key-order u.num u.den v.num v.den (value_denominator F k) (value_denominator F j))
