-- Sound rows in parts: those before p/q, the row of p/q where there is one, and those behind; and what each call does
-- there.
use Rattle.std.specs.Prelude.{◌≡◌, refl, true, false, cond, ltb, length}
use Rattle.std.proofs.Math.Path.{ap}
use mathlib.Core.List.{List, [], ◌∷◌, ◌++◌}
use Prim.Native.Nat.{ℕ, suc, ◌+◌, ◌*◌, ◌-◌, ◌≤◌, ◌<◌}
use Rattle.std.proofs.Common.{arith}
use Rattle.tables.specs.declared.Row.{Row}
use Rattle.tables.specs.Order.{Above, Sound}
use Rattle.tables.proofs.Order.{Stands, below, equal, above, stands, above-more, row-some}
use Rattle.tables.specs.Stocks.{row_for, with_quantity, is_below, is_of, index_of, held_of, stocked, drawn, passed}
use Rattle.tables.proofs.Held.{held-above}

-- row i, which is r, is of p/q
pub record Here (p q : ℕ) (l : List Row) (i : ℕ) (r : Row) : Type 0 where
  pub before : List Row
  pub behind : List Row
  pub parts : l ≡ before ++ (r ∷ behind)
  pub index : length before ≡ i
  pub ratio : r.numerator * q ≡ p * r.denominator
  pub some : 1 ≤ r.quantity
  pub place : index_of p q l ≡ i
  pub held : held_of p q l ≡ r.quantity
  pub more : (n : ℕ) → stocked p q n l ≡ before ++ (with_quantity (r.quantity + n) r ∷ behind)
  pub less : (n : ℕ) → drawn p q n l
      ≡ before ++ cond (ltb n r.quantity) (with_quantity (r.quantity - n) r ∷ behind) behind

-- none is, and one would be row i
pub record Absent (p q : ℕ) (l : List Row) (i : ℕ) : Type 0 where
  pub before : List Row
  pub behind : List Row
  pub parts : l ≡ before ++ behind
  pub index : length before ≡ i
  pub above : Above p q behind
  pub place : index_of p q l ≡ i
  pub held : held_of p q l ≡ 0
  pub more : (n : ℕ) → stocked p q n l ≡ before ++ (row_for p q n ∷ behind)

pub data Parted (p q : ℕ) (l : List Row) : Type 0 where
  here : {i : ℕ} {r : Row} → Here p q l i r → Parted p q l
  absent : {i : ℕ} → Absent p q l i → Parted p q l

module _ (p q : ℕ) (x : Row) (l : List Row) where
  -- behind a row below p/q
  module _ (f : is_below p q x ≡ true) (g : is_of p q x ≡ false) where
    here-behind : {i : ℕ} {r : Row} → Here p q l i r → Here p q (x ∷ l) (suc i) r
    unfolding passed held_of stocked drawn
    here-behind h = record {
      before = x ∷ h.before;
      behind = h.behind;
      parts = ap {B = List Row} (λ k. x ∷ k) h.parts;
      index = ap suc h.index;
      ratio = h.ratio;
      some = h.some;
      place = rw f (ap suc h.place);
      held = rw g (omega (arith, h.held));
      more = λ n. rw f (ap {B = List Row} (λ k. x ∷ k) (h.more n));
      less = λ n. rw g (ap {B = List Row} (λ k. x ∷ k) (h.less n));
    }

    absent-behind : {i : ℕ} → Absent p q l i → Absent p q (x ∷ l) (suc i)
    unfolding passed held_of stocked
    absent-behind h = record {
      before = x ∷ h.before;
      behind = h.behind;
      parts = ap {B = List Row} (λ k. x ∷ k) h.parts;
      index = ap suc h.index;
      above = h.above;
      place = rw f (ap suc h.place);
      held = rw g (omega (arith, h.held));
      more = λ n. rw f (ap {B = List Row} (λ k. x ∷ k) (h.more n));
    }

  -- before rows from p/q on
  module _ (positive : 1 ≤ q) (fine : Sound (x ∷ l)) (f : is_below p q x ≡ false) where
    high : p * x.denominator ≤ x.numerator * q → Above p q l
    high e = above-more p q x.numerator x.denominator l positive e fine.1.0

    here-first : x.numerator * q ≡ p * x.denominator → is_of p q x ≡ true → Here p q (x ∷ l) 0 x
    unfolding passed held_of stocked drawn
    here-first e g =
        let none = held-above p q l (high (omega arith)) in
        record {
          before = [];
          behind = l;
          parts = refl;
          index = refl;
          ratio = e;
          some = row-some x fine.0;
          place = rw f;
          held = rw g (omega arith);
          more = λ n. rw (f, g);
          less = λ n. rw g;
        }

    absent-first : p * x.denominator < x.numerator * q → is_of p q x ≡ false → Absent p q (x ∷ l) 0
    unfolding passed held_of stocked
    absent-first e g =
        let none = held-above p q l (high (omega arith)) in
        record {
          before = [];
          behind = x ∷ l;
          parts = refl;
          index = refl;
          above = (e, high (omega arith));
          place = rw f;
          held = rw g (omega arith);
          more = λ n. rw (f, g);
        }

absent_none : (p q : ℕ) → Absent p q [] 0
unfolding passed held_of stocked
absent_none p q = record {
  before = [];
  behind = [];
  parts = refl;
  index = refl;
  above = tt;
  place = refl;
  held = refl;
  more = λ n. refl;
}

pub parted : (p q : ℕ) (l : List Row) → 1 ≤ q → Sound l → Parted p q l
parted p q [] h f = absent (absent_none p q)
parted p q (x ∷ l) h s = by_case (stands p q x) (parted p q l h s.1.1)
  where
    by_case : Stands p q x → Parted p q l → Parted p q (x ∷ l)
    by_case (below e f g) (here again) = here (here-behind p q x l f g again)
    by_case (below e f g) (absent again) = absent (absent-behind p q x l f g again)
    by_case (equal e f g) again = here (here-first p q x l h s f e g)
    by_case (above e f g) again = absent (absent-first p q x l h s f e g)
