-- Cutting two strings to one width never changes their places, though they may become the same; and no value grows.
use Rattle.std.specs.Prelude.{◌≡◌, false, ◌⊎◌, [], ◌∷◌, ℕ, zero, suc, ◌*◌, ◌≤◌, ◌<◌, get_or, take}
use Rattle.std.proofs.Common.{sym, ◌∙◌, inl, inr, arith, length-take, get_or-take}
use Rattle.std.proofs.lemmas.Bool.{false≢true}
use Rattle.std.proofs.Math.Decide.{dec_lt}
use Rattle.std.proofs.Math.ListN.{get_or-eq_default}
use Rattle.bits.specs.Strings.{Bits, Same, Agree, ◌≺◌}
use Rattle.bits.proofs.Order.{before-agree}
use Rattle.bits.proofs.Trim.{closed-same}
use Rattle.families.specs.Families.{Family}
use Rattle.fractions.proofs.Lists.{Under}
use Rattle.keys.specs.Keys.{cut_to, Canonical, value_of_key}
use Rattle.keys.proofs.Back.{canonical-closed, canonical-same, not-canonical}
use Rattle.keys.proofs.Order.{value_order}

-- past the cut only zeros follow
cut-zeros : (n i : ℕ) (s : Bits) → n ≤ i → get_or (cut_to n s) i false ≡ false
cut-zeros n i s h =
    closed-same (take n s) i ∙ get_or-eq_default (take n s) false {n = i} (rw length-take (omega arith))

-- the first n bits stay
pub cut-agree : (n : ℕ) (s : Bits) → Agree false n (cut_to n s) s
cut-agree n s i h = closed-same (take n s) i ∙ get_or-take n s i false h

-- strings that stand in order once they are cut stood so before
pub cut-order : (n : ℕ) (s t : Bits) → cut_to n s ≺ cut_to n t → s ≺ t
cut-order n s t h = by_place (dec_lt h.place n)
  where
    by_place : Dec (h.place < n) → s ≺ t
    by_place (yes l) = before-agree false n (cut_to n s) s (cut_to n t) t (cut-agree n s) (cut-agree n t) h l
    by_place (no l) = absurd (false≢true (sym (cut-zeros n h.place t (omega arith)) ∙ h.high))

-- strings in order are in order or the same once they are cut
pub cut_keeps : (n : ℕ) (s t : Bits) → s ≺ t → (cut_to n s ≺ cut_to n t) ⊎ Same false (cut_to n s) (cut_to n t)
cut_keeps n s t h = by_place (dec_lt h.place n)
  where
    by_place : Dec (h.place < n) → (cut_to n s ≺ cut_to n t) ⊎ Same false (cut_to n s) (cut_to n t)
    by_place (yes l) =
        inl (before-agree false n s (cut_to n s) t (cut_to n t)
        (λ i k. sym (cut-agree n s i k)) (λ i k. sym (cut-agree n t i k)) h l)
    by_place (no l) = inr (λ i. by_index i (dec_lt i n))
      where
        by_index : (i : ℕ) → Dec (i < n) → get_or (cut_to n s) i false ≡ get_or (cut_to n t) i false
        by_index i (yes k) = cut-agree n s i k ∙ h.agree i (omega arith) ∙ sym (cut-agree n t i k)
        by_index i (no k) = cut-zeros n i s (omega arith) ∙ sym (cut-zeros n i t (omega arith))

-- what is cut doesn't grow
cut-not-above : (n : ℕ) (s : Bits) → s ≺ cut_to n s → ⊥
cut-not-above n s h = by_place (dec_lt h.place n)
  where
    by_place : Dec (h.place < n) → ⊥
    by_place (yes l) = false≢true (sym h.low ∙ sym (cut-agree n s h.place l) ∙ h.high)
    by_place (no l) = false≢true (sym (cut-zeros n h.place s (omega arith)) ∙ h.high)

pub cut-canonical : (n : ℕ) (k : Bits) → 1 ≤ n → Canonical k → Canonical (cut_to n k)
cut-canonical zero k h c = absurd (omega arith)
cut-canonical (suc n) [] h c = absurd (not-canonical c)
cut-canonical (suc n) (b ∷ s) h c = canonical-closed b (take n s)

-- the value a/b of a key that is cut is never above that of the key, p/q
pub cut_low : (F : Family) (n : ℕ) (k : Bits) → 1 ≤ n → Canonical k
    → let p/q = value_of_key F k in
    let a/b = value_of_key F (cut_to n k) in
    a/b.num * p/q.den ≤ p/q.num * a/b.den
cut_low F n k h c =
    let p/q = value_of_key F k in
    let a/b = value_of_key F (cut_to n k) in
    let above : ¬ Under p/q a/b =
    λ u. cut-not-above n k ((value_order F k (cut_to n k) c (cut-canonical n k h c)).1 u) in
    omega (arith, above)

-- keys in order are in order or equal once they are cut
pub cut-places : (j k : Bits) (n : ℕ) → Canonical j → Canonical k → 1 ≤ n
    → j ≺ k → (cut_to n j ≺ cut_to n k) ⊎ (cut_to n j ≡ cut_to n k)
cut-places j k n c d h l = by_cut (cut_keeps n j k l)
  where
    by_cut : (cut_to n j ≺ cut_to n k) ⊎ Same false (cut_to n j) (cut_to n k)
        → (cut_to n j ≺ cut_to n k) ⊎ (cut_to n j ≡ cut_to n k)
    by_cut (inl b) = inl b
    by_cut (inr s) = inr (canonical-same (cut_to n j) (cut_to n k) (cut-canonical n j h c) (cut-canonical n k h d) s)
