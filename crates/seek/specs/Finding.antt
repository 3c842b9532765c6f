-- The keys find where a ratio stands, and lowest terms which row is its.
use Rattle.std.specs.Prelude.{◌≡◌, Bool, true, false, ◌&&◌, ℕ, ◌*◌, ◌≤◌, eqb}
use Rattle.std.proofs.Math.Path.{refl}
use Rattle.std.proofs.Common.{sym, ◌∙◌, ap}
use mathlib.Core.List.{List, [], ◌∷◌}
use Rattle.std.proofs.Math.Nat.{div-one}
use borrow.Author.Tests.{eqb-true, eqb-false, eq-eqb}
use Rattle.blocks.specs.Blocks.{block_of}
use Rattle.families.proofs.Published.{words1983}
use Rattle.fractions.specs.Fractions.{Ratio, ◌over◌, gcd, lowest_terms}
use Rattle.fractions.proofs.Euclid.{lowest-same}
use Rattle.keys.specs.Keys.{key_of, value_of_key}
use Rattle.keys.proofs.Back.{key_value}
use Rattle.keys.proofs.Order.{key_equal}
use Rattle.keys.specs.Size.{limit}
use Rattle.tables.specs.declared.Row.{Row}
use Rattle.tables.specs.Sound.{is_row}
use Rattle.tables.specs.Stocks.{is_of, passed, index_of}
use Rattle.tables.specs.Order.{Sound}
use Rattle.tables.proofs.Order.{row_parts, row-positive}
use Rattle.tables.proofs.Tables.{AllSmall}
use Rattle.outcomes.proofs.BlockOrder.{block_below_lem}
use Rattle.judge.specs.Judging.{row_before}
use Rattle.seek.specs.Seeking.{same_terms}

module _ (p q : ℕ) (positive : 1 ≤ q) where
  -- so many rows stand before the key as before the ratio
  pub key_index : p ≤ limit → q ≤ limit → (l : List Row) → Sound l → AllSmall l
      → passed (row_before (block_of (key_of words1983 p q))) l ≡ index_of p q l
  unfolding passed
  key_index a b [] f s = refl
  key_index a b (x ∷ l) (good, (high, fine)) (s, m) =
      rw (
        block_below_lem words1983 x.numerator x.denominator p q (row-positive x good) positive s.numerator
            s.denominator
            a
            b,
        key_index a b l fine m,
      )

  -- a row is of p/q where its terms are the lowest terms of p/q
  module _ (x : Row) (good : is_row x ≡ true) where
    own : lowest_terms x.numerator x.denominator ≡ (x.numerator over x.denominator)
    unfolding lowest_terms
    own =
        let one = eqb-true (gcd x.numerator x.denominator) 1 (row_parts x good).1.0 in
        rw (one, div-one, div-one)

    lowest : x.numerator * q ≡ p * x.denominator → (x.numerator over x.denominator) ≡ lowest_terms p q
    lowest e =
        let some = row-positive x good in
        sym own ∙ sym (key_value words1983 x.numerator x.denominator some)
        ∙ ap (value_of_key words1983) ((key_equal words1983 x.numerator x.denominator p q some positive).1 e)
        ∙ key_value words1983 p q positive

    pub terms_tell : is_of p q x ≡ same_terms x (lowest_terms p q).num (lowest_terms p q).den
    terms_tell = by_test (is_of p q x) refl
      where
        v : Ratio
        v = lowest_terms p q

        other : (t u : Bool) → eqb x.numerator v.num ≡ t → eqb x.denominator v.den ≡ u
            → is_of p q x ≡ false → false ≡ (t && u)
        other true true f g e =
            let same : x.numerator * q ≡ p * x.denominator =
            rw (eqb-true x.numerator v.num f, eqb-true x.denominator v.den g)
            (sym (lowest-same p q positive)) in
            absurd (eqb-false (x.numerator * q) (p * x.denominator) e same)
        other true false f g e = refl
        other false u f g e = refl

        by_test : (t : Bool) → is_of p q x ≡ t → t ≡ same_terms x v.num v.den
        by_test true e =
            let same = lowest (eqb-true (x.numerator * q) (p * x.denominator) e) in
            sym (rw (
              eq-eqb x.numerator v.num (ap (λ (r : Ratio). r.num) same),
              eq-eqb x.denominator v.den (ap (λ (r : Ratio). r.den) same),
            ))
        by_test false e = other _ _ refl refl e
