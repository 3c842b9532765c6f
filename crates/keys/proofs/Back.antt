-- Reading back, over any family: the value of a ratio's key is the ratio in lowest terms, and the key of a canonical
-- key's value is that key (001, Observation 3).
use Rattle.std.specs.Prelude.{◌≡◌, refl, Bool, true, false, length}
use Rattle.std.proofs.Math.Path.{sym}
use Rattle.std.proofs.Common.{◌∙◌, ap, inl, inr, arith}
use Rattle.std.proofs.lemmas.Bool.{false≢true}
use mathlib.Core.List.{List, [], ◌∷◌, nil≢cons}
use Prim.Native.Nat.{ℕ, zero, suc, ◌≤◌}
use Rattle.bits.specs.Strings.{Bits, turn, Same, trimmed, closed}
use Rattle.bits.proofs.Trim.{trimmed-same, trimmed-ended, Tidy, tidy-trimmed, closed-same}
use Rattle.families.specs.Families.{Family}
use Rattle.fractions.specs.Fractions.{Ratio, ◌over◌, value_of, form_of, gcd, lowest_terms, EvenEnded}
use Rattle.fractions.proofs.Lists.{value_spread, spread-positive, even_ended_unique}
use Rattle.fractions.proofs.Euclid.{form_value, form-scaled, scaled_cross}
use Rattle.fractions.proofs.TwoStates.{form-even_ended}
use Rattle.keys.specs.Keys.{spelled, written, key_of, Canonical, quotients_of, value_of_key}
use Rattle.keys.proofs.Spelling.{written_unique}
use Rattle.keys.proofs.Reading.{quotients-even_ended, written-same}

-- a canonical key has nothing to drop
pub closed-canonical : (k : Bits) → Canonical k → closed k ≡ k
closed-canonical k (inl e) = rw e
closed-canonical k (inr ([], e)) = rw e
closed-canonical k (inr (b ∷ s, e)) = rw e (ap {B = Bits} (λ r. b ∷ r) (trimmed-ended s))

pub not-canonical : Canonical [] → ⊥
not-canonical (inl e) = nil≢cons e
not-canonical (inr ([], e)) = nil≢cons e
not-canonical (inr (b ∷ s, e)) = nil≢cons e

-- a string that is the same as a canonical key is closed to it
pub closed_to : (b : Bool) (s k : Bits) → Canonical k → Same false k (b ∷ s) → closed (b ∷ s) ≡ k
closed_to b s [] c e = absurd (not-canonical c)
closed_to b s (d ∷ t) c e =
    (λ i. sym (e 0) i ∷ trimmed-same s t (λ j. sym (e (suc j))) i) ∙ closed-canonical (d ∷ t) c

pub canonical-some : (k : Bits) → Canonical k → 1 ≤ length k
canonical-some [] c = absurd (not-canonical c)
canonical-some (b ∷ k) c = omega arith

-- canonical keys that are the same are equal
pub canonical-same : (j k : Bits) → Canonical j → Canonical k → Same false j k → j ≡ k
canonical-same [] k c d e = absurd (not-canonical c)
canonical-same (b ∷ s) k c d e = sym (closed-canonical (b ∷ s) c) ∙ closed_to b s k d (λ i. sym (e i))

pub canonical-closed : (b : Bool) (s : Bits) → Canonical (closed (b ∷ s))
canonical-closed b s = by_rest b (tidy-trimmed s)
  where
    by_rest : (b : Bool) → Tidy (trimmed s) → Canonical (b ∷ trimmed s)
    by_rest true (inl e) = inr ([], ap {B = Bits} (λ r. true ∷ r) e)
    by_rest false (inl e) = inl (ap {B = Bits} (λ r. false ∷ r) e)
    by_rest b (inr (t, e)) = inr (b ∷ t, ap {B = Bits} (λ r. b ∷ r) e)

module _ (F : Family) where
  written-first : (l : List ℕ) → EvenEnded l → (b : Bool) × (s : Bits) × (written F l ≡ b ∷ s)
  written-first [] h = absurd (false≢true h)
  written-first (zero ∷ l) h = (false, turn (spelled F l), refl)
  written-first (suc a ∷ l) h = (true, spelled F (suc a ∷ l), refl)

  pub key-canonical : (p q : ℕ) → 1 ≤ q → Canonical (key_of F p q)
  unfolding key_of
  key-canonical p q h =
      let (b, s, e) = written-first (form_of p q) (form-even_ended p q h) in rw e (canonical-closed b s)

  -- the quotients of a ratio's key are its even-ended form
  pub key-quotients : (p q : ℕ) → 1 ≤ q → quotients_of F (key_of F p q) ≡ form_of p q
  unfolding key_of
  key-quotients p q h = written_unique F (quotients_of F k) l (quotients-even_ended F k) (form-even_ended p q h)
      (λ i. sym (written-same F k i) ∙ closed-same (written F l) i)
    where
      l : List ℕ
      l = form_of p q

      k : Bits
      k = closed (written F l)

  -- reading gives lowest terms
  pub key_value : (p q : ℕ) → 1 ≤ q → value_of_key F (key_of F p q) ≡ lowest_terms p q
  key_value p q h = ap value_of (key-quotients p q h) ∙ form_value p q h

  -- the value is that of the infinite string
  pub value_same : (j k : Bits) → Same false j k → value_of_key F j ≡ value_of_key F k
  value_same j k e =
      ap value_of
      (written_unique F (quotients_of F j) (quotients_of F k) (quotients-even_ended F j) (quotients-even_ended F k)
      (λ i. sym (written-same F j i) ∙ e i ∙ written-same F k i))

  pub value_denominator : (k : Bits) → 1 ≤ (value_of_key F k).den
  value_denominator k = by_form (quotients_of F k) (quotients-even_ended F k)
    where
      by_form : (l : List ℕ) → EvenEnded l → 1 ≤ (value_of l).den
      by_form [] e = absurd (false≢true e)
      by_form (a ∷ l) h = spread-positive true (value_of l) (value_spread true l h)

  -- quotients in even-ended form are the even-ended form of their value
  even_ended-again : (l : List ℕ) → EvenEnded l → 1 ≤ (value_of l).den
      → form_of (value_of l).num (value_of l).den ≡ l
  even_ended-again l h d =
      let n = (value_of l).num in
      let m = (value_of l).den in
      even_ended_unique (form_of n m) l (form-even_ended n m d) h
      (sym (scaled_cross (gcd n m) n m (value_of (form_of n m)) (form-scaled n m d)))

  -- the quotients of a key are the even-ended form of its value
  pub value_form : (k : Bits) (p q : ℕ) → value_of_key F k ≡ p over q → form_of p q ≡ quotients_of F k
  value_form k p q v = rw v at (even_ended-again (quotients_of F k) (quotients-even_ended F k) (value_denominator k))

  -- writing what a canonical key reads as gives that key
  pub value_key : (k : Bits) (p q : ℕ) → Canonical k → value_of_key F k ≡ p over q → key_of F p q ≡ k
  unfolding key_of
  value_key k p q c v =
      let (b, s, e) = written-first (quotients_of F k) (quotients-even_ended F k) in
      rw (value_form k p q v, e) (closed_to b s k c (rw e at (written-same F k)))

  -- so each canonical key is the key of exactly one ratio
  pub key_of_one : (k : Bits) → Canonical k → (v : Ratio) × (1 ≤ v.den) × (key_of F v.num v.den ≡ k)
      × ((p q : ℕ) → 1 ≤ q → key_of F p q ≡ k → lowest_terms p q ≡ v)
  key_of_one k c =
      let v = value_of_key F k in (
        v,
        value_denominator k,
        value_key k v.num v.den c refl,
        λ p q h e. sym (key_value p q h) ∙ ap (value_of_key F) e,
      )
