-- What is promised of the stock table, in its own words. Only definitions are imported: what its calls give and leave
-- is in `outcomes`, file Stocking; what rows are and how they change is in `tables`; what a history of calls is, in
-- `histories`. The term that meets it is in StockMet.
use Rattle.std.specs.Prelude.{◌≡◌, false, ◌↔◌, List, [], ◌∷◌, ◌++◌, ℕ, ◌+◌, ◌*◌, ◌-◌, ◌≤◌, ◌<◌}
use Rattle.std.specs.Prelude.{length, get_or, drop, replicate}
use Rattle.bits.specs.Strings.{◌≺◌}
use Rattle.bits.specs.Texts.{Bytes}
use Rattle.families.specs.Families.{Family}
use Rattle.keys.specs.Keys.{key_of}
use Rattle.keys.specs.Size.{limit}
use Rattle.tables.specs.declared.Row.{Row}
use Rattle.tables.specs.Rows.{Layout, row_size, room_of, rows_in}
use Rattle.tables.specs.Layouts.{stock_rows}
use Rattle.tables.specs.Order.{Sound}
use Rattle.tables.specs.Stocks.{held_of}
use Rattle.tables.specs.Changes.{Of, NoneOf, AllBelow, PutIn, TakenOut, RowOf, FirstFrom}
use Rattle.outcomes.specs.Outcomes.{Outcome, Refusal, gives, first_of}
use Rattle.outcomes.specs.Refusals.{zero_denominator}
use Rattle.outcomes.specs.Stocking.{wrong_table, unsound_table, no_quantity, no_such_ratio, too_few, large_sum}
use Rattle.outcomes.specs.Stocking.{table_full}
use Rattle.outcomes.specs.Stocking.{Call, put_in, take_out, find, list_from, stock_call}
use Rattle.histories.specs.Histories.{State, empty_in, rows_of, after, answers, total, put_by, taken_by}
use Rattle.histories.specs.Histories.{Under, Zeros, AllNumbers}
use Rattle.demands.specs.Demands.{Refuses}

abbrev w : ℕ
w = row_size stock_rows

abbrev rows : ℕ → List ℕ → List Row
rows used m = rows_in w used m

abbrev call : Call → ℕ → List ℕ → Outcome
call c used m = stock_call stock_rows c used m

-- Every call refuses by 2 first, then by 16, then by 1, and then by what it has of the others.
abbrev order : ℕ → ℕ → List ℕ → List Refusal → List Refusal
order q used m more = wrong_table stock_rows m ∷ unsound_table stock_rows used m ∷ zero_denominator q ∷ more

pub record StockChecked (p q n used : ℕ) (m : List ℕ) : Type 0 where
  pub put : let held = held_of p q (rows used m) in
      let full = table_full held (length (rows used m)) (room_of stock_rows m) in
      Refuses (call (put_in p q n) used m) (order q used m (no_quantity n ∷ large_sum held n ∷ full ∷ [])) m
  pub take : let held = held_of p q (rows used m) in Refuses (call (take_out p q n) used m)
      (order q used m (no_quantity n ∷ no_such_ratio held ∷ too_few held n ∷ [])) m
  pub found : Refuses (call (find p q) used m) (order q used m (no_such_ratio (held_of p q (rows used m)) ∷ [])) m
  pub listed : Refuses (call (list_from p q) used m) (order q used m []) m
  -- 2 is for memory that isn't 1 to 2,048 whole rows and nothing over.
  pub size : ((wrong_table stock_rows m).1 ≡ false)
      ↔ ((length m ≡ w * room_of stock_rows m) × ((1 ≤ room_of stock_rows m) × (room_of stock_rows m ≤ 2048)))
  -- 16 is for more rows than there is room for, and rows that aren't sound: one of no denominator, of no quantity or
  -- not in lowest terms, or one that isn't below all behind it.
  pub sound : ((unsound_table stock_rows used m).1 ≡ false) ↔ ((used ≤ room_of stock_rows m) × Sound (rows used m))

-- What an accepted call gives and leaves: u, i and h are the rows used, the row's index and its quantity.
pub record Accepted (p q n used : ℕ) (m e : List ℕ) : Type 0 where
  pub put : (u i h : ℕ) → call (put_in p q n) used m ≡ gives (u ∷ i ∷ h ∷ []) e
      → PutIn p q n (rows used m) (rows u e) i h × (drop (w * u) e ≡ drop (w * u) m)
  pub take : (u i h : ℕ) → call (take_out p q n) used m ≡ gives (u ∷ i ∷ h ∷ []) e
      → TakenOut p q n (rows used m) (rows u e) i h
      × (drop (w * u) e ≡ replicate (w * (used - u)) 0 ++ drop (w * used) m)
  pub found : (i h : ℕ) → call (find p q) used m ≡ gives (i ∷ h ∷ []) e → (e ≡ m) × RowOf p q (rows used m) i h
  -- After whether there is one: the first row that isn't below p/q; there is none only where all are below.
  pub listed : (i x y h : ℕ) → call (list_from p q) used m ≡ gives (1 ∷ i ∷ x ∷ y ∷ h ∷ []) e
      → (e ≡ m) × FirstFrom p q (rows used m) i (record { numerator = x; denominator = y; quantity = h })
  pub none_listed : (i x y h : ℕ) → call (list_from p q) used m ≡ gives (0 ∷ i ∷ x ∷ y ∷ h ∷ []) e
      → (e ≡ m) × AllBelow p q (rows used m)

-- Any calls, one after the other, from an empty table in any memory m that isn't refused by 2. The caller keeps the
-- count that an accepted put or take gave last.
pub record History (L : Layout) (calls : List Call) (m : List ℕ) (s : State) : Type 0 where
  -- Of every ratio, in a row or not: what is held and all that was taken out by accepted calls is what was put in by
  -- accepted calls. The same of each row.
  pub balance : (p q : ℕ) → 1 ≤ q
      → held_of p q (rows_of L s) + total L (taken_by p q) calls (empty_in m) ≡ total L (put_by p q) calls (empty_in m)
  pub row_balance : (i : ℕ) (none : Row) → i < s.used → let r = get_or (rows_of L s) i none in
      let p = r.numerator in let q = r.denominator in
      r.quantity + total L (taken_by p q) calls (empty_in m) ≡ total L (put_by p q) calls (empty_in m)
  -- No call after these refuses by 2 or 16.
  pub sound : first_of (wrong_table L s.memory ∷ unsound_table L s.used s.memory ∷ []) ≡ 0
  -- Rows behind the most ever used are as they were, and zeros behind the used rows stay zeros.
  pub unused : (n : ℕ) → Under L n calls (empty_in m) → drop (row_size L * n) s.memory ≡ drop (row_size L * n) m
  pub zeros : Zeros m → Zeros (drop (row_size L * s.used) s.memory)
  -- Answers depend neither on what memory held nor on what stands behind a row's numbers.
  pub answered : (M : Layout) (k : List ℕ) → (wrong_table M k).1 ≡ false → room_of M k ≡ room_of L m
      → answers M calls (empty_in k) ≡ answers L calls (empty_in m)

pub record Stock : Type 0 where
  pub checked : (p q n used : ℕ) (m : List ℕ) → StockChecked p q n used m
  pub accepted : (p q n used : ℕ) (m e : List ℕ) → Bytes m → p ≤ limit → q ≤ limit → Accepted p q n used m e
  -- A ratio has at most one row.
  pub one_row : (p q : ℕ) (a b : List Row) (r : Row) → 1 ≤ q → Sound (a ++ (r ∷ b)) → Of p q r
      → NoneOf p q a × NoneOf p q b
  -- Over any family the keys of a table's rows rise.
  pub keys : (F : Family) (a b c : List Row) (r s : Row) → Sound (a ++ (r ∷ (b ++ (s ∷ c))))
      → key_of F r.numerator r.denominator ≺ key_of F s.numerator s.denominator
  pub history : (L : Layout) (calls : List Call) (m : List ℕ) → AllNumbers calls → (wrong_table L m).1 ≡ false
      → History L calls m (after L calls (empty_in m))
