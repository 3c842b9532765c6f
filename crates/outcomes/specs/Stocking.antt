-- The stock table: what each of its four calls gives and leaves. Rows are in lent memory as a layout says.
use Rattle.std.specs.Prelude.{Bool, not, ◌&&◌, ◌||◌, List, [], ◌∷◌, ℕ, ◌+◌, ◌-◌, ◌/◌, ◌%◌, eqb, ltb, length, drop}
use Rattle.keys.specs.Size.{limit}
use Rattle.tables.specs.declared.Row.{Row}
use Rattle.tables.specs.Rows.{Layout, row_size, room_of, rows_in, table_after}
use Rattle.tables.specs.Sound.{sound, fitting}
use Rattle.tables.specs.Stocks.{index_of, held_of, stocked, drawn}
use Rattle.outcomes.specs.Outcomes.{Outcome, Refusal, called}
use Rattle.outcomes.specs.Refusals.{zero_denominator}

-- whether n bytes aren't 1 to 2,048 whole rows of w bytes and nothing over
abbrev pub wrong_size : ℕ → ℕ → Bool
wrong_size w n = not (eqb (n % w) 0) || (eqb (n / w) 0 || ltb 2048 (n / w))

-- 2: memory of such a length
abbrev pub wrong_table : Layout → List ℕ → Refusal
wrong_table L m = (2, wrong_size (row_size L) (length m))

-- 16: more rows used than there is room for, or rows that no table has
abbrev pub unsound_table : Layout → ℕ → List ℕ → Refusal
unsound_table L used m =
    (16, ltb (room_of L m) used || not (sound (rows_in (row_size L) used m) && fitting L used m))

pub data Call : Type 0 where
  put_in : ℕ → ℕ → ℕ → Call
  take_out : ℕ → ℕ → ℕ → Call
  find : ℕ → ℕ → Call
  list_from : ℕ → ℕ → Call

abbrev pub denominator_of : Call → ℕ
denominator_of (put_in p q n) = q
denominator_of (take_out p q n) = q
denominator_of (find p q) = q
denominator_of (list_from p q) = q

-- 15: a quantity of nought
abbrev pub no_quantity : ℕ → Refusal
no_quantity n = (15, eqb n 0)

-- 12: no such ratio, where nothing is held of it
abbrev pub no_such_ratio : ℕ → Refusal
no_such_ratio held = (12, eqb held 0)

-- 14: taking more than there is
abbrev pub too_few : ℕ → ℕ → Refusal
too_few held n = (14, ltb held n)

-- 13: a sum above 4294967295
abbrev pub large_sum : ℕ → ℕ → Refusal
large_sum held n = (13, ltb limit (held + n))

-- 11: a new ratio with all rows used
abbrev pub table_full : ℕ → ℕ → ℕ → Refusal
table_full held used room = (11, eqb held 0 && eqb used room)

-- after 2, 16 and 1, which every call has: each call those that can apply
abbrev pub stock_refusals : ℕ → List Row → Call → List Refusal
stock_refusals room rows (put_in p q n) =
    let held = held_of p q rows in no_quantity n ∷ large_sum held n ∷ table_full held (length rows) room ∷ []
stock_refusals room rows (take_out p q n) =
    let held = held_of p q rows in no_quantity n ∷ no_such_ratio held ∷ too_few held n ∷ []
stock_refusals room rows (find p q) = no_such_ratio (held_of p q rows) ∷ []
stock_refusals room rows (list_from p q) = []

-- the row at a place, after whether there is one
abbrev pub listed_at : ℕ → List Row → List ℕ
listed_at i [] = 0 ∷ 0 ∷ 0 ∷ 0 ∷ 0 ∷ []
listed_at i (r ∷ l) = 1 ∷ i ∷ r.numerator ∷ r.denominator ∷ r.quantity ∷ []

abbrev pub stock_values : List Row → Call → List ℕ
stock_values rows (put_in p q n) = length (stocked p q n rows) ∷ index_of p q rows ∷ (held_of p q rows + n) ∷ []
stock_values rows (take_out p q n) = length (drawn p q n rows) ∷ index_of p q rows ∷ (held_of p q rows - n) ∷ []
stock_values rows (find p q) = index_of p q rows ∷ held_of p q rows ∷ []
stock_values rows (list_from p q) = let i = index_of p q rows in listed_at i (drop i rows)

-- memory after a call
abbrev pub stock_memory : Layout → List Row → Call → List ℕ → List ℕ
stock_memory L rows (put_in p q n) m = table_after L rows (stocked p q n rows) m
stock_memory L rows (take_out p q n) m = table_after L rows (drawn p q n rows) m
stock_memory L rows (find p q) m = m
stock_memory L rows (list_from p q) m = m

unfoldable pub stock_call : Layout → Call → ℕ → List ℕ → Outcome
stock_call L c used m =
    let rows = rows_in (row_size L) used m in
    called
    (wrong_table L m ∷ unsound_table L used m ∷ zero_denominator (denominator_of c) ∷ stock_refusals (room_of L m) rows c)
    (stock_values rows c) m (stock_memory L rows c m)
