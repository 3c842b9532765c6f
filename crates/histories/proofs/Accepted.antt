-- What a call that is accepted gives and leaves, row by row.
use Rattle.std.specs.Prelude.{◌≡◌, refl, false, List, [], ◌∷◌, ◌++◌, ℕ, ◌+◌, ◌*◌, ◌-◌, ◌≤◌, length, get_or, drop, replicate}
use Rattle.std.proofs.Common.{sym, ap, arith}
use borrow.Author.Tests.{ltb-false, eqb-false}
use Rattle.bits.specs.Texts.{Bytes}
use Rattle.keys.specs.Size.{limit}
use Rattle.tables.specs.declared.Row.{Row}
use Rattle.tables.specs.Rows.{Layout, row_size, room_of, rows_in}
use Rattle.tables.specs.Stocks.{index_of, held_of, stocked, drawn}
use Rattle.tables.proofs.Tables.{length-rows, rows-small}
use Rattle.tables.proofs.Kept.{length-drawn}
use Rattle.tables.proofs.Moved.{table-behind}
use Rattle.tables.specs.Changes.{AllBelow, PutIn, TakenOut, RowOf, FirstFrom}
use Rattle.tables.proofs.Changed.{put_changes, put-length, take_changes, find-gives, first_from, none_from}
use Rattle.outcomes.specs.Outcomes.{gives}
use Rattle.outcomes.specs.Refusals.{zero_denominator}
use Rattle.outcomes.specs.Laws.{Clear}
use Rattle.outcomes.proofs.Laws.{gives-clear}
use Rattle.outcomes.specs.Stocking.{Call, put_in, take_out, find, list_from, denominator_of, wrong_table, unsound_table}
use Rattle.outcomes.specs.Stocking.{stock_refusals, listed_at, stock_values, stock_memory, stock_call}
use Rattle.histories.specs.Histories.{State, used_after, changed, Numbers}
use Rattle.histories.proofs.Holding.{Holds}
use Rattle.histories.proofs.Steps.{Steps, steps, numbers}
use Rattle.histories.proofs.Meaning.{right_rows}

-- a number of a list of values
value : (i : ℕ) {v u : List ℕ} → v ≡ u → get_or v i 0 ≡ get_or u i 0
value i e = ap (λ (l : List ℕ). get_or l i 0) e

module _ (L : Layout) (used : ℕ) (m : List ℕ) (bytes : Bytes m) where
  abbrev w : ℕ
  w = row_size L

  abbrev s : State
  s = record { used = used; memory = m }

  abbrev rows : List Row
  rows = rows_in w used m

  -- a table that isn't refused by 2 or 16
  holds : (wrong_table L m).1 ≡ false → (unsound_table L used m).1 ≡ false → Holds L s
  holds e f =
      let (room, (fine, fits)) = (right_rows L used m).0 f in
      record { table = e; within = room; rows = fine; small = rows-small w used m bytes; fits = fits }

  -- what is known of a call that is accepted
  record Accepts (c : Call) (v e : List ℕ) : Type 0 where
    table : Holds L s
    positive : 1 ≤ denominator_of c
    clear : Clear (stock_refusals (room_of L m) rows c)
    values : stock_values rows c ≡ v
    memory : stock_memory L rows c m ≡ e

  accepts : (c : Call) (v e : List ℕ) → stock_call L c used m ≡ gives v e → Accepts c v e
  unfolding stock_call
  accepts c v e h =
      let order =
      wrong_table L m ∷ unsound_table L used m ∷ zero_denominator (denominator_of c) ∷ stock_refusals (room_of L m) rows c in
      let (clear, (x, y)) =
      gives-clear order (stock_values rows c) m (stock_memory L rows c m) (numbers L (room_of L m) rows c) v e h in
      record {
        table = holds clear.0 clear.1.0;
        positive = omega (arith, eqb-false (denominator_of c) 0 clear.1.1.0);
        clear = clear.1.1.1;
        values = x;
        memory = y;
      }

  -- the rows at the end are those that the call leaves
  after-rows : (c : Call) (v e : List ℕ) → Numbers c → stock_call L c used m ≡ gives v e
      → rows_in w (used_after c used v) e ≡ changed c rows
  after-rows c v e b h =
      let so : Steps L c s (gives v e) = rw h at (steps L c s b (accepts c v e h).table) in so.rows

  module _ (p q n u i h : ℕ) (e : List ℕ) where
    pub put-accepted : p ≤ limit → q ≤ limit → stock_call L (put_in p q n) used m ≡ gives (u ∷ i ∷ h ∷ []) e
        → PutIn p q n rows (rows_in w u e) i h × (drop (w * u) e ≡ drop (w * u) m)
    put-accepted a b k =
        let c = accepts (put_in p q n) (u ∷ i ∷ h ∷ []) e k in
        let after = stocked p q n rows in
        let all : length after ≡ u = value 0 c.values in
        let more = put-length p q rows c.positive c.table.rows n in
        let none : used - u ≡ 0 = omega (arith, length-rows w used m) in
        let zeros : w * 0 ≡ 0 = omega arith in
        let same : u + 0 ≡ u = omega arith in
        let left : drop (w * length after) e
        ≡ replicate (w * (used - length after)) 0 ++ drop (w * (length after + (used - length after))) m =
        rw (← c.memory) (table-behind L used m after) in (
          rw (after-rows (put_in p q n) (u ∷ i ∷ h ∷ []) e (a, b) k, ← value 1 c.values, ← value 2 c.values)
              (put_changes p q rows c.positive c.table.rows n),
          rw (all, none, zeros, same) at left,
        )

    pub take-accepted : p ≤ limit → q ≤ limit → stock_call L (take_out p q n) used m ≡ gives (u ∷ i ∷ h ∷ []) e
        → TakenOut p q n rows (rows_in w u e) i h
        × (drop (w * u) e ≡ replicate (w * (used - u)) 0 ++ drop (w * used) m)
    take-accepted a b k =
        let c = accepts (take_out p q n) (u ∷ i ∷ h ∷ []) e k in
        let after = drawn p q n rows in
        let (some, (held, (enough, end))) = c.clear in
        let all : length after ≡ u = value 0 c.values in
        let same : u + (used - u) ≡ used =
        omega (arith, length-drawn p q n rows, length-rows w used m) in
        let left : drop (w * length after) e
        ≡ replicate (w * (used - length after)) 0 ++ drop (w * (length after + (used - length after))) m =
        rw (← c.memory) (table-behind L used m after) in (
          rw (after-rows (take_out p q n) (u ∷ i ∷ h ∷ []) e (a, b) k, ← value 1 c.values, ← value 2 c.values)
              (take_changes p q rows c.positive c.table.rows n (omega (arith, eqb-false n 0 some))
              (ltb-false (held_of p q rows) n enough)),
          rw (all, same) at left,
        )

  module _ (p q : ℕ) (e : List ℕ) where
    pub find-accepted : (i h : ℕ) → stock_call L (find p q) used m ≡ gives (i ∷ h ∷ []) e
        → (e ≡ m) × RowOf p q rows i h
    find-accepted i h k =
        let c = accepts (find p q) (i ∷ h ∷ []) e k in
        let some : 1 ≤ held_of p q rows = omega (arith, eqb-false (held_of p q rows) 0 c.clear.0) in
        (sym c.memory, rw (value 0 c.values, value 1 c.values) at (find-gives p q rows c.positive c.table.rows some))

    pub list-accepted : (i x y h : ℕ) → stock_call L (list_from p q) used m ≡ gives (1 ∷ i ∷ x ∷ y ∷ h ∷ []) e
        → (e ≡ m) × FirstFrom p q rows i (record { numerator = x; denominator = y; quantity = h })
    list-accepted i x y h k =
        let c = accepts (list_from p q) (1 ∷ i ∷ x ∷ y ∷ h ∷ []) e k in
        (sym c.memory, by_rows (drop (index_of p q rows) rows) refl c.values)
      where
        by_rows : (l : List Row) → drop (index_of p q rows) rows ≡ l
            → listed_at (index_of p q rows) l ≡ 1 ∷ i ∷ x ∷ y ∷ h ∷ []
            → FirstFrom p q rows i (record { numerator = x; denominator = y; quantity = h })
        by_rows [] f g = let z : ◌≡◌ {A = ℕ} 0 1 = value 0 g in absurd (omega arith)
        by_rows (r ∷ l) f g =
            let row : r ≡ record { numerator = x; denominator = y; quantity = h } =
            λ j. record { numerator = value 2 g j; denominator = value 3 g j; quantity = value 4 g j } in
            rw (value 1 g, row) at (first_from p q rows f)

    pub list_none : (i x y h : ℕ) → stock_call L (list_from p q) used m ≡ gives (0 ∷ i ∷ x ∷ y ∷ h ∷ []) e
        → (e ≡ m) × AllBelow p q rows
    list_none i x y h k =
        let c = accepts (list_from p q) (0 ∷ i ∷ x ∷ y ∷ h ∷ []) e k in
        (sym c.memory, by_rows (drop (index_of p q rows) rows) refl c.values)
      where
        by_rows : (l : List Row) → drop (index_of p q rows) rows ≡ l
            → listed_at (index_of p q rows) l ≡ 0 ∷ i ∷ x ∷ y ∷ h ∷ [] → AllBelow p q rows
        by_rows [] f g = none_from p q rows f
        by_rows (r ∷ l) f g = let z : ◌≡◌ {A = ℕ} 1 0 = value 0 g in absurd (omega arith)
