-- What putting in answers, by what seeking and storing gave.
use Rattle.std.specs.Prelude.{◌≡◌, refl, false, List, [], ◌∷◌, ℕ, ◌+◌, ◌/◌, ◌≤◌, ◌<◌, eqb, length, Ok}
use Rattle.std.proofs.Common.{sym, ◌∙◌, ap, arith, lt-ltb, le-ltb, eq-eqb, ne_eqb}
use Rattle.bits.specs.Texts.{Bytes}
use Rattle.fractions.specs.Fractions.{Ratio}
use Rattle.fractions.specs.declared.Fraction.{Fraction}
use Rattle.keys.specs.Size.{limit}
use Rattle.tables.specs.declared.Row.{Row}
use Rattle.tables.specs.Layouts.{stock_rows}
use Rattle.tables.specs.Rows.{row_size, rows_in}
use Rattle.tables.specs.Stocks.{row_for, with_quantity}
use Rattle.tables.specs.Moves.{put_at, inserted_at}
use Rattle.tables.proofs.Tables.{length-rows}
use Rattle.outcomes.specs.Outcomes.{Outcome, gives, refuses}
use Rattle.outcomes.specs.Stocking.{put_in, stock_call}
use Rattle.seek.specs.declared.Sought.{Sought}
use Rattle.seek.specs.declared.Sought.TheVariants.{Here, Absent}
use Rattle.seek.specs.Seeking.{sought}
use Rattle.seek.specs.Callers.{told-here, told-absent, told-rest}
use Rattle.seek.proofs.Changing.{holds-some, row-put, row-inserted}

module _ (used p q n : ℕ) (m : List ℕ) where
  abbrev rows : List Row
  rows = rows_in (row_size stock_rows) used m

  abbrev whole : Outcome
  whole = stock_call stock_rows (put_in p q n) used m

  pub put_none : (s : Sought) → Ok s ≡ sought used p q m → n ≡ 0 → refuses 15 3 m ≡ whole
  put_none s e z = rw (eq-eqb n 0 z) at (told-rest used p q m (put_in p q n) refl s e)

  module _ (some : 1 ≤ n) where
    counts : eqb n 0 ≡ false
    counts = ne_eqb n 0 (λ z. omega arith)

    -- to a row that is there
    module _ {i : ℕ} {r : Row} (e : Ok (Here i r) ≡ sought used p q m) where
      pub put_large : limit < r.quantity + n → refuses 13 3 m ≡ whole
      put_large k =
          let (fine, (h, rest)) = told-here used p q m (put_in p q n) refl e in
          rw (counts, h.held, lt-ltb limit (r.quantity + n) k) at rest

      pub put-more : Bytes m → {k : ℕ} → (r.quantity + n ≤ limit) × (k ≡ r.quantity + n) → {l : List ℕ}
          → l ≡ put_at stock_rows i (with_quantity k r) m → gives (used ∷ i ∷ k ∷ []) l ≡ whole
      put-more small (few, sum) f =
          let (fine, (h, rest)) = told-here used p q m (put_in p q n) refl e in
          rw (f, sum)
          (row-put used p q m fine small _ h (with_quantity (r.quantity + n) r)
          ∙ rw (
            counts,
            h.held,
            le-ltb limit (r.quantity + n) few,
            holds-some used p q m h,
            h.place,
            h.more n,
          ) at rest)

    -- to a ratio that has no row
    module _ (most : n ≤ limit) {i : ℕ} {v : Fraction} (e : Ok (Absent i v) ≡ sought used p q m) where
      abbrev new : Row
      new = record { numerator = v.numerator; denominator = v.denominator; quantity = n }

      pub new_full : used ≡ length m / 12 → refuses 11 3 m ≡ whole
      new_full k =
          let (fine, (h, (lowest, rest))) = told-absent used p q m (put_in p q n) refl e in
          rw (counts, h.held, le-ltb limit (0 + n) (omega arith), length-rows, eq-eqb used (length m / 12) k) at rest

      pub new_row : Bytes m → (used ≡ length m / 12 → ⊥) → {l : List ℕ}
          → l ≡ inserted_at stock_rows i used new m → gives ((used + 1) ∷ i ∷ n ∷ []) l ≡ whole
      new_row small free f =
          let (fine, (h, (lowest, rest))) = told-absent used p q m (put_in p q n) refl e in
          let row : new ≡ row_for p q n =
          ap (λ (x : Ratio). record { numerator = x.num; denominator = x.den; quantity = n }) lowest in
          let none : 0 + n ≡ n = omega arith in
          rw (f, row)
          (row-inserted used p q m fine small _ h (omega (arith, fine.within, free)) (row_for p q n)
          ∙ rw (
            counts,
            h.held,
            none,
            le-ltb limit n most,
            ne_eqb (length rows) (length m / 12) (λ z. free (sym (length-rows (row_size stock_rows) used m) ∙ z)),
            h.place,
            h.more n,
          ) at rest)
