-- What rows hold of each ratio, after putting in and taking out.
use Rattle.std.specs.Prelude.{◌≡◌, Bool, eqb, length}
use Rattle.std.proofs.Math.Path.{refl}
use Rattle.std.proofs.Common.{sym, ap}
use Rattle.std.proofs.Math.Bool.{true, false, cond}
use mathlib.Core.List.{List, [], ◌∷◌}
use Prim.Native.Nat.{ℕ, zero, suc, ◌+◌, ◌*◌, ◌-◌, ◌≤◌, ◌<◌}
use native.Mathlib.Omega.{arith}
use borrow.Author.Tests.{ltb-false, eq-eqb, ne_eqb, eqb-true, eqb-false}
use Rattle.std.proofs.Math.Dec.{ltb}
use Rattle.std.proofs.Math.ListN.{get_or}
use Rattle.fractions.specs.Fractions.{lowest_terms}
use Rattle.fractions.proofs.Euclid.{lowest-same, usual-scaled, usual_value}
use Rattle.tables.specs.declared.Row.{Row}
use Rattle.tables.proofs.Order.{cross_equal, Stands, below, equal, above}
use Rattle.tables.specs.Order.{Above, Sound}
use Rattle.tables.proofs.Order.{stands, above-more, row-positive}
use Rattle.tables.specs.Stocks.{row_for, with_quantity, share, is_of, held_of, stocked, drawn}

-- rows above p/q hold nothing of it
pub held-above : (p q : ℕ) (l : List Row) → Above p q l → held_of p q l ≡ 0
unfolding held_of
held-above p q [] a = refl
held-above p q (r ∷ l) (h, a) =
    rw (ne_eqb (r.numerator * q) (p * r.denominator) (λ e. omega arith)) (omega (arith, held-above p q l a))

-- of its own ratio a row holds what it says
module _ (none : Row) where
  above-at : (p q : ℕ) (l : List Row) (i : ℕ) → Above p q l → i < length l
      → let r = get_or l i none in p * r.denominator < r.numerator * q
  above-at p q [] i a h = absurd (omega arith)
  above-at p q (x ∷ l) zero (e, a) h = e
  above-at p q (x ∷ l) (suc i) (e, a) h = above-at p q l i a (omega arith)

  pub held-at : (l : List Row) (i : ℕ) → Sound l → i < length l
      → let r = get_or l i none in (held_of r.numerator r.denominator l ≡ r.quantity) × (1 ≤ r.denominator)
  unfolding held_of
  held-at [] i f h = absurd (omega arith)
  held-at (x ∷ l) zero (good, (high, fine)) h =
      let a = x.numerator in
      let b = x.denominator in
      (rw (eq-eqb (a * b) (a * b) refl) (omega (arith, held-above a b l high)), row-positive x good)
  held-at (x ∷ l) (suc i) (good, (high, fine)) h =
      let r = get_or l i none in
      let less = above-at x.numerator x.denominator l i high (omega arith) in
      let (same, some) = held-at l i fine (omega arith) in (
        rw (ne_eqb (x.numerator * r.denominator) (r.numerator * x.denominator) (λ e. omega arith)) (omega arith),
        some,
      )

-- a new row: its denominator, and that it is of its ratio
module _ (r s : ℕ) (other : 1 ≤ s) where
  pub new_positive : (n : ℕ) → 1 ≤ (row_for r s n).denominator
  new_positive n = by_size (lowest_terms r s).den refl
    where
      by_size : (d : ℕ) → (lowest_terms r s).den ≡ d → 1 ≤ d
      by_size zero e =
          let z = usual-scaled r s other in absurd (omega (arith, rw (usual_value r s other, e) at z.below))
      by_size (suc d) e = omega arith

  pub new_equal : (n : ℕ) → (row_for r s n).numerator * s ≡ r * (row_for r s n).denominator
  new_equal n = sym (lowest-same r s other)

-- a test by what it says
same_test : (a b c d : ℕ) → (a ≡ b → c ≡ d) → (c ≡ d → a ≡ b) → eqb a b ≡ eqb c d
same_test a b c d f g = by_test (eqb a b) refl
  where
    by_test : (t : Bool) → eqb a b ≡ t → t ≡ eqb c d
    by_test true e = sym (eq-eqb c d (f (eqb-true a b e)))
    by_test false e = sym (ne_eqb c d (λ z. eqb-false a b e (g z)))

module _ (p q r s : ℕ) (positive : 1 ≤ q) (other : 1 ≤ s) where
  -- a row of r/s counts for p/q as r/s does
  shared : (x : Row) (n : ℕ) → 1 ≤ x.denominator → x.numerator * s ≡ r * x.denominator
      → share p q x.numerator x.denominator n ≡ share p q r s n
  shared x n h e =
      let a = x.numerator in
      let b = x.denominator in
      ap (λ (t : Bool). cond t n 0)
      (same_test (a * q) (p * b) (r * q) (p * s)
      (λ g. cross_equal r s a b p q h (sym e) g)
      (λ g. cross_equal a b r s p q other e g))

  share-add : (m n : ℕ) → share p q r s (m + n) ≡ share p q r s m + share p q r s n
  share-add m n = by_test (eqb (r * q) (p * s))
    where
      by_test : (t : Bool) → cond t (m + n) 0 ≡ cond t m 0 + cond t n 0
      by_test true = refl
      by_test false = refl

  pub held-stocked : (n : ℕ) (l : List Row) → Sound l
      → held_of p q (stocked r s n l) ≡ held_of p q l + share p q r s n
  unfolding stocked held_of
  held-stocked n [] f =
      omega (arith, shared (row_for r s n) n (new_positive r s other n) (new_equal r s other n))
  held-stocked n (x ∷ l) (good, (high, fine)) = by_case (stands r s x) (held-stocked n l fine)
    where
      by_case : Stands r s x → held_of p q (stocked r s n l) ≡ held_of p q l + share p q r s n
          → held_of p q (stocked r s n (x ∷ l)) ≡ held_of p q (x ∷ l) + share p q r s n
      by_case (below h f g) again = rw f (omega arith)
      by_case (equal h f g) again =
          let of = shared x x.quantity (row-positive x good) h in
          let more = shared x (x.quantity + n) (row-positive x good) h in
          rw (f, g) (omega (arith, share-add x.quantity n))
      by_case (above h f g) again =
          rw (f, g) (omega (arith, shared (row_for r s n) n (new_positive r s other n) (new_equal r s other n)))

  pub held-drawn : (n : ℕ) (l : List Row) → Sound l → n ≤ held_of r s l
      → held_of p q (drawn r s n l) + share p q r s n ≡ held_of p q l
  unfolding drawn held_of
  held-drawn n [] f h = by_test (eqb (r * q) (p * s))
    where
      by_test : (t : Bool) → 0 + cond t n 0 ≡ 0
      by_test true = omega arith
      by_test false = refl
  held-drawn n (x ∷ l) (good, (high, fine)) h = by_case (stands r s x) (held-drawn n l fine)
    where
      taken : x.numerator * s ≡ r * x.denominator → n ≤ x.quantity → (t : Bool) → ltb n x.quantity ≡ t
          → held_of p q (cond t (with_quantity (x.quantity - n) x ∷ l) l) + share p q r s n ≡ held_of p q (x ∷ l)
      taken e k true f =
          let left = shared x (x.quantity - n) (row-positive x good) e in
          let all : x.quantity - n + n ≡ x.quantity = omega arith in
          omega (arith, shared x x.quantity (row-positive x good) e, rw all at (share-add (x.quantity - n) n))
      taken e k false f =
          let all : x.quantity ≡ n = omega (arith, ltb-false n x.quantity f) in
          rw all (omega (arith, shared x n (row-positive x good) e))

      other-row : is_of r s x ≡ false → (n ≤ held_of r s l → held_of p q (drawn r s n l) + share p q r s n ≡ held_of p q l)
          → held_of p q (drawn r s n (x ∷ l)) + share p q r s n ≡ held_of p q (x ∷ l)
      other-row g again =
          let rest : n ≤ 0 + held_of r s l = rw g at h in rw g (omega (arith, again (omega arith)))

      by_case : Stands r s x → (n ≤ held_of r s l → held_of p q (drawn r s n l) + share p q r s n ≡ held_of p q l)
          → held_of p q (drawn r s n (x ∷ l)) + share p q r s n ≡ held_of p q (x ∷ l)
      by_case (equal e f g) again =
          let none = held-above r s l (above-more r s x.numerator x.denominator l other (omega arith) high) in
          let most : n ≤ x.quantity + held_of r s l = rw g at h in
          rw g (taken e (omega arith) (ltb n x.quantity) refl)
      by_case (below e f g) again = other-row g again
      by_case (above e f g) again = other-row g again
