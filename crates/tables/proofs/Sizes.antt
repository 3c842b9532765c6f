-- Rows whose numbers have 32 bits stay such when something is put in or taken out.
use Rattle.std.specs.Prelude.{Bool, cond, ℕ, ◌+◌, ◌-◌, ◌≤◌, ltb}
use Rattle.std.proofs.Math.Bool.{true, false}
use mathlib.Core.List.{List, [], ◌∷◌, ◌++◌}
use Rattle.std.proofs.Common.{mul-le-mul_right, arith}
use Rattle.fractions.specs.Fractions.{gcd, lowest_terms}
use Rattle.fractions.proofs.Euclid.{Scaled, usual-scaled, usual_value}
use Rattle.tables.specs.declared.Row.{Row}
use Rattle.tables.specs.Stocks.{row_for, with_quantity, is_of, held_of, stocked, drawn}
use Rattle.tables.proofs.Numbers.{Small}
use Rattle.tables.proofs.Tables.{AllSmall}
use Rattle.tables.proofs.Parts.{Here, Absent}

small-append : (a b : List Row) → AllSmall a → AllSmall b → AllSmall (a ++ b)
small-append [] b s t = t
small-append (x ∷ a) b (s, m) t = (s, small-append a b m t)

small_parts : (a b : List Row) → AllSmall (a ++ b) → AllSmall a × AllSmall b
small_parts [] b s = (tt, s)
small_parts (x ∷ a) b (s, m) = let (y, z) = small_parts a b m in ((s, y), z)

-- lowest terms aren't larger
pub small_new : (p q n : ℕ) → 1 ≤ q → p ≤ 4294967295 → q ≤ 4294967295 → n ≤ 4294967295 → Small (row_for p q n)
small_new p q n h a b c =
    let v = lowest_terms p q in
    let z : Scaled (gcd p q) p q v = rw (usual_value p q h) at (usual-scaled p q h) in
    record {
      numerator = omega (arith, mul-le-mul_right v.num z.positive, z.above);
      denominator = omega (arith, mul-le-mul_right v.den z.positive, z.below);
      quantity = c;
    }

module _ (p q n : ℕ) (l : List Row) (small : AllSmall l) where
  pub small-more : {i : ℕ} {r : Row} → Here p q l i r → held_of p q l + n ≤ 4294967295 → AllSmall (stocked p q n l)
  small-more {r = r} h e =
      let (front, (s, back)) = small_parts h.before (r ∷ h.behind) (rw h.parts at small) in
      rw (h.more n) (small-append h.before _ front
      (record { numerator = s.numerator; denominator = s.denominator; quantity = omega (arith, h.held) }, back))

  pub small_added : {i : ℕ} → Absent p q l i → Small (row_for p q n) → AllSmall (stocked p q n l)
  small_added h s =
      let (front, back) = small_parts h.before h.behind (rw h.parts at small) in
      rw (h.more n) (small-append h.before _ front (s, back))

module _ (p q n : ℕ) where
  pub small-drawn : (l : List Row) → AllSmall l → AllSmall (drawn p q n l)
  unfolding drawn
  small-drawn [] s = tt
  small-drawn (x ∷ l) (s, m) = by_tests (is_of p q x) (ltb n x.quantity) (small-drawn l m)
    where
      by_tests : (o t : Bool) → AllSmall (drawn p q n l)
          → AllSmall (cond o (cond t (with_quantity (x.quantity - n) x ∷ l) l) (x ∷ drawn p q n l))
      by_tests true true again =
          (record { numerator = s.numerator; denominator = s.denominator; quantity = omega (arith, s.quantity) }, m)
      by_tests true false again = m
      by_tests false t again = (s, again)
