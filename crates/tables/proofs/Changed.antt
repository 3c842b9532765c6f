-- Sound rows change as they should, and the first row from a ratio on is found.
use Rattle.std.proofs.Math.Path.{◌≡◌, refl}
use Rattle.std.proofs.Common.{sym, ◌∙◌, ap, arith, ltb-true, ltb-false, eq-eqb, length-append}
use Rattle.std.specs.Prelude.{Bool, true, ℕ, suc, ◌+◌, ◌*◌, ◌-◌, ◌≤◌, ltb, length, drop}
use Rattle.std.proofs.Math.Bool.{false}
use mathlib.Core.List.{List, [], ◌∷◌, ◌++◌}
use Rattle.tables.specs.declared.Row.{Row}
use Rattle.tables.specs.Order.{Above, Sound}
use Rattle.tables.proofs.Order.{Stands, below, equal, above, stands, above-more, row-some, above_part, cross_equal}
use Rattle.tables.specs.Stocks.{is_below, passed, index_of, held_of, stocked, drawn}
use Rattle.tables.proofs.Parts.{Here, Parted, here, absent, parted}
use Rattle.tables.specs.Changes.{Of, NoneOf, AllBelow, RowAt, PutIn, added, made, TakenOut, lowered, gone, RowOf, FirstFrom}

-- rows above p/q aren't of it
above_none : (p q : ℕ) (l : List Row) → Above p q l → NoneOf p q l
above_none p q [] a = tt
above_none p q (r ∷ l) (h, a) = (λ e. omega arith, above_none p q l a)

-- where nothing is held of p/q
held_none : (p q : ℕ) (l : List Row) → Sound l → held_of p q l ≡ 0 → NoneOf p q l
unfolding held_of
held_none p q [] f e = tt
held_none p q (x ∷ l) (good, (high, fine)) e = (
  λ o. let some = row-some x good in
      let all = rw (eq-eqb (x.numerator * q) (p * x.denominator) o) at e in
      omega arith,
  held_none p q l fine (omega arith),
)

-- at most one row is of a ratio
pub one_row : (p q : ℕ) → 1 ≤ q → (a b : List Row) (r : Row) → Sound (a ++ (r ∷ b)) → Of p q r
    → NoneOf p q a × NoneOf p q b
one_row p q h [] b r (good, (high, fine)) o =
    (tt, above_none p q b (above-more p q r.numerator r.denominator b h (omega arith) high))
one_row p q h (x ∷ a) b r (good, (high, fine)) o =
    let (none, rest) = one_row p q h a b r fine o in
    let less = above_part x.numerator x.denominator a b r high in
    let differs : Of p q x → ⊥ = λ e.
    let same = cross_equal x.numerator x.denominator p q r.numerator r.denominator h e (sym o) in
    omega arith in
    ((differs, none), rest)

module _ (p q : ℕ) (l : List Row) where
  row_there : {i : ℕ} {r : Row} (h : Here p q l i r) → RowAt l i h.before r h.behind
  row_there h = record { parts = h.parts; index = h.index }

  -- putting in, taking out and finding change and give what they should
  module _ (positive : 1 ≤ q) (fine : Sound l) where
    pub put_changes : (n : ℕ) → PutIn p q n l (stocked p q n l) (index_of p q l) (held_of p q l + n)
    put_changes n = by_part (parted p q l positive fine)
      where
        by_part : Parted p q l → PutIn p q n l (stocked p q n l) (index_of p q l) (held_of p q l + n)
        by_part (here {i} {r} h) =
            rw (h.place, h.held) (added h.before h.behind r (row_there h) h.ratio refl (h.more n))
        by_part (absent {i} h) =
            let none : 0 + n ≡ n = omega arith in
            rw (h.place, h.held) (made h.before h.behind h.parts h.index (held_none p q l fine h.held) none (h.more n))

    -- no row goes
    pub put-length : (n : ℕ) → length l ≤ length (stocked p q n l)
    put-length n = by_change (put_changes n)
      where
        by_change : PutIn p q n l (stocked p q n l) (index_of p q l) (held_of p q l + n)
            → length l ≤ length (stocked p q n l)
        by_change (added a b r at o e f) = rw (f, at.parts, length-append, length-append) (omega arith)
        by_change (made a b at i o e f) = rw (f, at, length-append, length-append) (omega arith)

    pub take_changes : (n : ℕ) → 1 ≤ n → n ≤ held_of p q l
        → TakenOut p q n l (drawn p q n l) (index_of p q l) (held_of p q l - n)
    take_changes n some enough = by_part (parted p q l positive fine)
      where
        by_size : {i : ℕ} {r : Row} → Here p q l i r → (t : Bool) → ltb n r.quantity ≡ t
            → TakenOut p q n l (drawn p q n l) i (r.quantity - n)
        by_size {i} {r} h true e =
            let less = ltb-true n r.quantity e in
            lowered h.before h.behind r (row_there h) h.ratio (omega arith) (omega arith) (h.less n ∙ rw e)
        by_size {i} {r} h false e =
            let all : r.quantity ≡ n = omega (arith, ltb-false n r.quantity e, h.held) in
            gone h.before h.behind r (row_there h) h.ratio all (omega arith) (h.less n ∙ rw e)

        by_part : Parted p q l → TakenOut p q n l (drawn p q n l) (index_of p q l) (held_of p q l - n)
        by_part (here {i} {r} h) = rw (h.place, h.held) (by_size h (ltb n r.quantity) refl)
        by_part (absent h) = absurd (omega (arith, h.held))

    pub find-gives : 1 ≤ held_of p q l → RowOf p q l (index_of p q l) (held_of p q l)
    find-gives some = by_part (parted p q l positive fine)
      where
        by_part : Parted p q l → RowOf p q l (index_of p q l) (held_of p q l)
        by_part (here {i} {r} h) =
            rw (h.place, h.held) record {
              before = h.before;
              behind = h.behind;
              row = r;
              there = row_there h;
              of = h.ratio;
              holds = refl;
            }
        by_part (absent h) = absurd (omega (arith, h.held))

-- the first row from p/q on
module _ (p q : ℕ) where
  pub first_from : (l : List Row) {r : Row} {rest : List Row} → drop (index_of p q l) l ≡ r ∷ rest
      → FirstFrom p q l (index_of p q l) r
  unfolding passed
  first_from [] {r} {rest} e = let z : ◌≡◌ {A = ℕ} 0 1 = cc in absurd (omega arith)
  first_from (x ∷ l) {r} {rest} e = by_case (stands p q x) (first_from l)
    where
      at-front : is_below p q x ≡ false → p * x.denominator ≤ x.numerator * q → FirstFrom p q (x ∷ l) 0 r
      at-front f h =
          let first : x ∷ l ≡ r ∷ rest = rw f at e in
          let same : x ≡ r = cc in
          rw (← same) record {
            before = [];
            behind = l;
            there = record { parts = refl; index = refl };
            below = tt;
            not_below = h;
          }

      by_case : Stands p q x → (drop (index_of p q l) l ≡ r ∷ rest → FirstFrom p q l (index_of p q l) r)
          → FirstFrom p q (x ∷ l) (index_of p q (x ∷ l)) r
      by_case (below h f g) again =
          let next = again (rw f at e) in
          rw f record {
            before = x ∷ next.before;
            behind = next.behind;
            there = record {
              parts = ap {B = List Row} (λ k. x ∷ k) next.there.parts;
              index = ap suc next.there.index;
            };
            below = (h, next.below);
            not_below = next.not_below;
          }
      by_case (equal h f g) again = rw f (at-front f (omega arith))
      by_case (above h f g) again = rw f (at-front f (omega arith))

  pub none_from : (l : List Row) → drop (index_of p q l) l ≡ [] → AllBelow p q l
  unfolding passed
  none_from [] e = tt
  none_from (x ∷ l) e = by_test (stands p q x) (none_from l)
    where
      not-front : is_below p q x ≡ false → AllBelow p q (x ∷ l)
      not-front f =
          let first : x ∷ l ≡ [] = rw f at e in let z : ◌≡◌ {A = ℕ} 0 1 = cc in absurd (omega arith)

      by_test : Stands p q x → (drop (index_of p q l) l ≡ [] → AllBelow p q l) → AllBelow p q (x ∷ l)
      by_test (below h f g) again = (h, again (rw f at e))
      by_test (equal h f g) again = not-front f
      by_test (above h f g) again = not-front f
