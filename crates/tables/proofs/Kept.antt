-- Sound rows stay sound when something is put in or taken out.
use Rattle.std.specs.Prelude.{◌≡◌, Bool, cond}
use Rattle.std.proofs.Math.Path.{refl}
use Rattle.std.proofs.Math.Bool.{true, false}
use mathlib.Core.List.{List, [], ◌∷◌}
use Prim.Native.Nat.{ℕ, suc, ◌+◌, ◌*◌, ◌-◌, ◌≤◌, ◌<◌}
use native.Mathlib.Omega.{arith}
use borrow.Author.Tests.{ltb-true, eq-eqb, ne_eqb}
use Rattle.std.proofs.Math.Dec.{ltb}
use Rattle.std.proofs.Math.ListN.{length}
use Rattle.fractions.specs.Fractions.{gcd, lowest_terms}
use Rattle.fractions.proofs.Euclid.{usual-scaled, lowest_coprime}
use Rattle.tables.specs.declared.Row.{Row}
use Rattle.tables.specs.Sound.{is_row}
use Rattle.tables.proofs.Order.{below_equal, Stands, below, equal, above, stands}
use Rattle.tables.specs.Order.{Above, Sound}
use Rattle.tables.proofs.Order.{above-more, row_parts, row-positive}
use Rattle.tables.specs.Stocks.{row_for, with_quantity, is_of, stocked, drawn}
use Rattle.tables.proofs.Held.{new_positive, new_equal}

-- a row with another quantity
pub row-again : (x : Row) (n : ℕ) → is_row x ≡ true → 1 ≤ n → is_row (with_quantity n x) ≡ true
row-again x n e h =
    let (some, (lowest, full)) = row_parts x e in
    rw (some, lowest, ne_eqb n 0 (λ z. omega arith))

module _ (r s : ℕ) (other : 1 ≤ s) where
  new_lowest : gcd (lowest_terms r s).num (lowest_terms r s).den ≡ 1
  new_lowest =
      let v = lowest_terms r s in
      let z = usual-scaled v.num v.den (new_positive r s other 0) in
      lowest_coprime r s other (gcd v.num v.den) _ _ z.above z.below

  pub new_row : (n : ℕ) → 1 ≤ n → is_row (row_for r s n) ≡ true
  new_row n h =
      let some = new_positive r s other n in
      rw (ne_eqb (lowest_terms r s).den 0 (λ z. omega arith), eq-eqb _ 1 new_lowest, ne_eqb n 0 (λ z. omega arith))

  -- what is below r/s is below its new row, and what is above is above
  above_new : (p q n : ℕ) → 1 ≤ q → p * s < r * q → p * (row_for r s n).denominator < (row_for r s n).numerator * q
  above_new p q n h e =
      below_equal p q r s (lowest_terms r s).num (lowest_terms r s).den (new_positive r s other n) e
      (new_equal r s other n)

  new_above : (n : ℕ) (l : List Row) → Above r s l → Above (row_for r s n).numerator (row_for r s n).denominator l
  new_above n l a = above-more _ _ r s l (new_positive r s other n) (omega (arith, new_equal r s other n)) a

  above-stocked : (p q n : ℕ) (l : List Row) → 1 ≤ q → p * s < r * q → Above p q l → Above p q (stocked r s n l)
  unfolding stocked
  above-stocked p q n [] h e a = (above_new p q n h e, tt)
  above-stocked p q n (x ∷ l) h e (f, a) = by_case (stands r s x) (above-stocked p q n l h e a)
    where
      by_case : Stands r s x → Above p q (stocked r s n l) → Above p q (stocked r s n (x ∷ l))
      by_case (below k g o) again = rw g (f, again)
      by_case (equal k g o) again = rw (g, o) (f, a)
      by_case (above k g o) again = rw (g, o) (above_new p q n h e, (f, a))

  pub sound-stocked : (n : ℕ) (l : List Row) → 1 ≤ n → Sound l → Sound (stocked r s n l)
  unfolding stocked
  sound-stocked n [] h f = (new_row n h, (tt, tt))
  sound-stocked n (x ∷ l) h (good, (high, fine)) = by_case (stands r s x) (sound-stocked n l h fine)
    where
      by_case : Stands r s x → Sound (stocked r s n l) → Sound (stocked r s n (x ∷ l))
      by_case (below k g o) again =
          rw g (good, (above-stocked x.numerator x.denominator n l (row-positive x good) k high, again))
      by_case (equal k g o) again = rw (g, o) (row-again x (x.quantity + n) good (omega arith), (high, fine))
      by_case (above k g o) again =
          let more = above-more r s x.numerator x.denominator l other (omega arith) high in
          rw (g, o) (new_row n h, (new_above n (x ∷ l) (k, more), (good, (high, fine))))

module _ (r s n : ℕ) where
  above-drawn : (p q : ℕ) (l : List Row) → Above p q l → Above p q (drawn r s n l)
  unfolding drawn
  above-drawn p q [] a = tt
  above-drawn p q (x ∷ l) (f, a) = by_tests (is_of r s x) (ltb n x.quantity) (above-drawn p q l a)
    where
      by_tests : (o t : Bool) → Above p q (drawn r s n l)
          → Above p q (cond o (cond t (with_quantity (x.quantity - n) x ∷ l) l) (x ∷ drawn r s n l))
      by_tests true true again = (f, a)
      by_tests true false again = a
      by_tests false t again = (f, again)

  pub sound-drawn : (l : List Row) → Sound l → Sound (drawn r s n l)
  unfolding drawn
  sound-drawn [] f = tt
  sound-drawn (x ∷ l) (good, (high, fine)) = by_tests (is_of r s x) (ltb n x.quantity) refl (sound-drawn l fine)
    where
      by_tests : (o t : Bool) → ltb n x.quantity ≡ t → Sound (drawn r s n l)
          → Sound (cond o (cond t (with_quantity (x.quantity - n) x ∷ l) l) (x ∷ drawn r s n l))
      by_tests true true e again =
          (row-again x (x.quantity - n) good (omega (arith, ltb-true n x.quantity e)), (high, fine))
      by_tests true false e again = fine
      by_tests false t e again = (good, (above-drawn x.numerator x.denominator l high, again))

  -- no row comes
  pub length-drawn : (l : List Row) → length (drawn r s n l) ≤ length l
  unfolding drawn
  length-drawn [] = omega arith
  length-drawn (x ∷ l) = by_tests (is_of r s x) (ltb n x.quantity) (length-drawn l)
    where
      by_tests : (o t : Bool) → length (drawn r s n l) ≤ length l
          → length (cond o (cond t (with_quantity (x.quantity - n) x ∷ l) l) (x ∷ drawn r s n l)) ≤ suc (length l)
      by_tests true true again = omega arith
      by_tests true false again = omega arith
      by_tests false t again = omega arith
