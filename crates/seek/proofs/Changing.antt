-- What a call that changes the table has besides of what seeking told: how it refuses where the library's `checked_add`
-- or `checked_sub` finds no number; and that the rows after a row was put, inserted or removed are in memory, counted.
use Rattle.std.specs.Prelude.{◌≡◌, false, eqb, List, ◌∷◌, ◌++◌, ℕ, ◌+◌, ◌-◌, ◌<◌, length}
use Rattle.std.specs.Prelude.{Option, Some, None, Result, Ok, Err, IsErrAnd, ok_or}
use Rattle.std.proofs.Common.{arith, ne_eqb, length-append}
use Rattle.bits.specs.Texts.{Bytes}
use Rattle.tables.specs.declared.Row.{Row}
use Rattle.tables.specs.Layouts.{stock_rows}
use Rattle.tables.specs.Rows.{row_size, room_of, rows_in, table_after}
use Rattle.tables.specs.Moves.{put_at, inserted_at, removed_at}
use Rattle.tables.proofs.Moved.{count, memory-put, memory_inserted, memory_removed}
use Rattle.tables.proofs.Parts.{Here as Found, Absent as Missing}
use Rattle.outcomes.specs.Outcomes.{leaves, gives, refuses}
use Rattle.judge.specs.Callers.{Fine}
use Rattle.refusals.specs.declared.Refusal.{Refusal}
use Rattle.refusals.specs.Numbers.{number_of}
use Rattle.refusals.specs.Answers.{answered}

-- a number that isn't there is refused by d
pub refused_on : {X T : Type 0} (v : ℕ) (said : X → List ℕ) (m : List ℕ) (d : Refusal) (o : Option T)
    (r : Result X Refusal) {e : Refusal} → Err e ≡ ok_or o d → IsErrAnd r (λ x. x ≡ e)
    → leaves (answered v said r) m ≡ refuses (number_of d) v m
refused_on v said m d o (Ok x) h f = absurd f
refused_on v said m d None (Err x) h f = cc
refused_on v said m d (Some y) (Err x) h f = absurd (cc)

module _ (used p q : ℕ) (m : List ℕ) where
  abbrev rows : List Row
  rows = rows_in (row_size stock_rows) used m

  -- a row that is there holds something
  pub holds-some : {i : ℕ} {r : Row} → Found p q rows i r → eqb r.quantity 0 ≡ false
  holds-some {i} {r} h = ne_eqb r.quantity 0 (λ z. omega (arith, h.some))

  module _ (fine : Fine used m) (small : Bytes m) (v : List ℕ) where
    module _ {i : ℕ} {r : Row} (h : Found p q rows i r) where
      pub row-put : (x : Row) → let after = h.before ++ (x ∷ h.behind) in
          gives (used ∷ v) (put_at stock_rows i x m) ≡ gives (length after ∷ v) (table_after stock_rows rows after m)
      row-put x =
          let all : used ≡ length (h.before ++ (x ∷ h.behind)) =
          rw length-append (count stock_rows used m h.before (r ∷ h.behind) h.parts) in
          λ j. gives (all j ∷ v)
          (memory-put stock_rows used m fine.within small fine.fits h.before h.behind r h.parts i h.index x j)

      pub row-removed : let after = h.before ++ h.behind in
          gives ((used - 1) ∷ v) (removed_at stock_rows i used m)
          ≡ gives (length after ∷ v) (table_after stock_rows rows after m)
      row-removed =
          let all : used - 1 ≡ length (h.before ++ h.behind) =
          rw length-append (omega (arith, count stock_rows used m h.before (r ∷ h.behind) h.parts)) in
          λ j. gives (all j ∷ v)
          (memory_removed stock_rows used m fine.within small fine.fits h.before h.behind r h.parts i h.index j)

    pub row-inserted : {i : ℕ} (h : Missing p q rows i) → used < room_of stock_rows m → (x : Row)
        → let after = h.before ++ (x ∷ h.behind) in
        gives ((used + 1) ∷ v) (inserted_at stock_rows i used x m)
        ≡ gives (length after ∷ v) (table_after stock_rows rows after m)
    row-inserted {i} h free x =
        let all : used + 1 ≡ length (h.before ++ (x ∷ h.behind)) =
        rw length-append (omega (arith, count stock_rows used m h.before h.behind h.parts)) in
        λ j. gives (all j ∷ v)
        (memory_inserted stock_rows used m fine.within small fine.fits h.before h.behind h.parts i h.index free x j)
