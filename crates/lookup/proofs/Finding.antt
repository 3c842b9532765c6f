-- What finding and listing answer, by what seeking gave.
use Rattle.std.specs.Prelude.{◌≡◌, refl, List, [], ◌∷◌, ℕ, ◌≤◌, ◌<◌, length, drop, Option, Result, Ok, Err, IsErrAnd}
use Rattle.std.proofs.Common.{◌∙◌, ap, arith, eq-eqb, drop_at}
use Rattle.fractions.specs.declared.Fraction.{Fraction}
use Rattle.tables.specs.declared.Row.{Row}
use Rattle.tables.specs.Layouts.{stock_rows}
use Rattle.tables.specs.Rows.{row_size, room_of, rows_in}
use Rattle.tables.specs.Stocks.{held_of, index_of}
use Rattle.tables.specs.Moves.{row_at}
use Rattle.tables.proofs.Moved.{row_at_lem}
use Rattle.tables.proofs.Tables.{rows-drop, rows-next, rows-end}
use Rattle.outcomes.specs.Outcomes.{leaves, gives, refuses}
use Rattle.outcomes.specs.Stocking.{find, list_from, listed_at, stock_call}
use Rattle.refusals.specs.declared.Refusal.{Refusal}
use Rattle.refusals.specs.Answers.{answered}
use Rattle.seek.specs.declared.Sought.{Sought}
use Rattle.seek.specs.declared.Sought.TheVariants.{Here, Absent}
use Rattle.seek.specs.Seeking.{sought}
use Rattle.seek.specs.Callers.{told_on, told-here, told-absent}
use Rattle.seek.proofs.Changing.{holds-some}
use Rattle.lookup.specs.declared.Listed.{Listed}
use Rattle.lookup.specs.Answers.{listed_as}
use Rattle.lookup.specs.Places.{place_of}

pub listed_five : (i : ℕ) (l : List Row) → length (listed_at i l) ≡ 5
listed_five i [] = refl
listed_five i (r ∷ l) = refl

module _ (used p q : ℕ) (m : List ℕ) where
  abbrev rows : List Row
  rows = rows_in (row_size stock_rows) used m

  pub find-here : {i : ℕ} {r : Row} → Ok (Here i r) ≡ sought used p q m
      → gives (i ∷ r.quantity ∷ []) m ≡ stock_call stock_rows (find p q) used m
  find-here {i} {r} e =
      let (fine, (h, rest)) = told-here used p q m (find p q) refl e in
      rw (h.place, h.held, holds-some used p q m h) at rest

  pub find-absent : {i : ℕ} {v : Fraction} → Ok (Absent i v) ≡ sought used p q m
      → refuses 12 2 m ≡ stock_call stock_rows (find p q) used m
  find-absent e =
      let (fine, (h, (lowest, rest))) = told-absent used p q m (find p q) refl e in
      rw (eq-eqb (held_of p q rows) 0 h.held) at rest

  pub list_refused : (r : Result (Option Listed) Refusal) {e : Refusal} → Err e ≡ sought used p q m
      → IsErrAnd r (λ d. d ≡ e) → leaves (answered 5 listed_as r) m ≡ stock_call stock_rows (list_from p q) used m
  list_refused r h f =
      rw (listed_five (index_of p q rows) (drop (index_of p q rows) rows)) at
      (told_on used p q m (list_from p q) refl listed_as r h f)

  pub list-here : {i : ℕ} {r : Row} → Ok (Here i r) ≡ sought used p q m
      → gives (1 ∷ i ∷ r.numerator ∷ r.denominator ∷ r.quantity ∷ []) m ≡ stock_call stock_rows (list_from p q) used m
  list-here {i} {r} e =
      let (fine, (h, rest)) = told-here used p q m (list_from p q) refl e in
      let there : drop i rows ≡ r ∷ h.behind =
      ap (drop i) h.parts ∙ drop_at h.before (r ∷ h.behind) i h.index in
      rw (h.place, there) at rest

  -- the rows from the place on are listed
  placed : (s : Sought) → Ok s ≡ sought used p q m
      → (used ≤ room_of stock_rows m)
      × (gives (listed_at (place_of s) (drop (place_of s) rows)) m ≡ stock_call stock_rows (list_from p q) used m)
  placed (Here i r) e =
      let (fine, (h, rest)) = told-here used p q m (list_from p q) refl e in (fine.within, rw h.place at rest)
  placed (Absent i f) e =
      let (fine, (h, (lowest, rest))) = told-absent used p q m (list_from p q) refl e in
      (fine.within, rw h.place at rest)

  module _ (s : Sought) (e : Ok s ≡ sought used p q m) where
    pub list-row : (i : ℕ) → i ≡ place_of s → i < used → (r : Row) → r ≡ row_at stock_rows i m
        → gives (1 ∷ i ∷ r.numerator ∷ r.denominator ∷ r.quantity ∷ []) m ≡ stock_call stock_rows
        (list_from p q) used m
    list-row i same h r g =
        let (within, rest) = placed s e in
        let there = g ∙ row_at_lem stock_rows i m (omega arith) in
        rw (
          ← same,
          rows-drop (row_size stock_rows) used i m,
          rows-next (row_size stock_rows) m used i h,
          ← there,
        ) at rest

    pub list_none : (i : ℕ) → i ≡ place_of s → used ≤ i
        → gives (0 ∷ 0 ∷ 0 ∷ 0 ∷ 0 ∷ []) m ≡ stock_call stock_rows (list_from p q) used m
    list_none i same h =
        let (within, rest) = placed s e in
        rw (← same, rows-drop (row_size stock_rows) used i m, rows-end (row_size stock_rows) m used i h) at rest
