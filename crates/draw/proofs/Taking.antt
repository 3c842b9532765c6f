-- What taking out answers, by what seeking and storing gave.
use Rattle.std.specs.Prelude.{◌≡◌, refl, false, List, [], ◌∷◌, ℕ, ◌-◌, ◌≤◌, ◌<◌, eqb, Ok}
use Rattle.std.proofs.Common.{◌∙◌, arith, lt-ltb, le-ltb, eq-eqb, ne_eqb}
use Rattle.bits.specs.Texts.{Bytes}
use Rattle.fractions.specs.declared.Fraction.{Fraction}
use Rattle.tables.specs.declared.Row.{Row}
use Rattle.tables.specs.Layouts.{stock_rows}
use Rattle.tables.specs.Rows.{row_size, rows_in}
use Rattle.tables.specs.Stocks.{with_quantity}
use Rattle.tables.specs.Moves.{put_at, removed_at}
use Rattle.outcomes.specs.Outcomes.{Outcome, gives, refuses}
use Rattle.outcomes.specs.Stocking.{take_out, stock_call}
use Rattle.seek.specs.declared.Sought.{Sought}
use Rattle.seek.specs.declared.Sought.TheVariants.{Here, Absent}
use Rattle.seek.specs.Seeking.{sought}
use Rattle.seek.specs.Callers.{told-here, told-absent, told-rest}
use Rattle.seek.proofs.Changing.{holds-some, row-put, row-removed}

module _ (used p q n : ℕ) (m : List ℕ) where
  abbrev rows : List Row
  rows = rows_in (row_size stock_rows) used m

  abbrev whole : Outcome
  whole = stock_call stock_rows (take_out p q n) used m

  pub take_none : (s : Sought) → Ok s ≡ sought used p q m → n ≡ 0 → refuses 15 3 m ≡ whole
  take_none s e z = rw (eq-eqb n 0 z) at (told-rest used p q m (take_out p q n) refl s e)

  module _ (some : 1 ≤ n) where
    counts : eqb n 0 ≡ false
    counts = ne_eqb n 0 (λ z. omega arith)

    pub none_there : {i : ℕ} {v : Fraction} → Ok (Absent i v) ≡ sought used p q m → refuses 12 3 m ≡ whole
    none_there e =
        let (fine, (h, (lowest, rest))) = told-absent used p q m (take_out p q n) refl e in
        rw (counts, h.held) at rest

    module _ {i : ℕ} {r : Row} (e : Ok (Here i r) ≡ sought used p q m) where
      pub take_few : r.quantity < n → refuses 14 3 m ≡ whole
      take_few k =
          let (fine, (h, rest)) = told-here used p q m (take_out p q n) refl e in
          rw (counts, h.held, holds-some used p q m h, lt-ltb r.quantity n k) at rest

      module _ (small : Bytes m) {k : ℕ} (left : (n ≤ r.quantity) × (k ≡ r.quantity - n)) where
        pub take-some : 1 ≤ k → {l : List ℕ} → l ≡ put_at stock_rows i (with_quantity k r) m
            → gives (used ∷ i ∷ k ∷ []) l ≡ whole
        take-some more f =
            let (fine, (h, rest)) = told-here used p q m (take_out p q n) refl e in
            rw (f, left.1)
            (row-put used p q m fine small _ h (with_quantity (r.quantity - n) r)
            ∙ rw (
              counts,
              h.held,
              holds-some used p q m h,
              le-ltb r.quantity n left.0,
              h.place,
              h.less n,
              lt-ltb n r.quantity (omega arith),
            ) at rest)

        pub take-all : k ≡ 0 → {l : List ℕ} → l ≡ removed_at stock_rows i used m
            → gives ((used - 1) ∷ i ∷ k ∷ []) l ≡ whole
        take-all none f =
            let (fine, (h, rest)) = told-here used p q m (take_out p q n) refl e in
            rw (f, left.1)
            (row-removed used p q m fine small _ h
            ∙ rw (
              counts,
              h.held,
              holds-some used p q m h,
              le-ltb r.quantity n left.0,
              h.place,
              h.less n,
              le-ltb n r.quantity (omega arith),
            ) at rest)
