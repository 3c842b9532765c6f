-- What seeking p/q tells a call of the table that has nothing left to refuse.
use Rattle.std.specs.Prelude.{◌≡◌, List, ℕ}
use Rattle.std.proofs.Common.{sym, ◌∙◌}
use Rattle.tables.specs.declared.Row.{Row}
use Rattle.tables.specs.Layouts.{stock_rows}
use Rattle.tables.specs.Rows.{row_size, room_of, rows_in}
use Rattle.outcomes.specs.Outcomes.{Outcome, gives, called}
use Rattle.outcomes.specs.Laws.{Clear}
use Rattle.outcomes.proofs.Laws.{clear-called}
use Rattle.outcomes.specs.Stocking.{Call, denominator_of}
use Rattle.outcomes.specs.Stocking.{stock_refusals, stock_values, stock_memory, stock_call}

module _ (used p q : ℕ) (m : List ℕ) where
  abbrev rows : List Row
  rows = rows_in (row_size stock_rows) used m

  module _ (c : Call) (same : denominator_of c ≡ q) where
    abbrev values : List ℕ
    values = stock_values rows c

    abbrev whole : Outcome
    whole = stock_call stock_rows c used m

    -- what is left to refuse
    abbrev rest : Outcome
    rest = called (stock_refusals (room_of stock_rows m) rows c) values m (stock_memory stock_rows rows c m)

    -- nothing is left to refuse
    pub told-given : {v l : List ℕ} → Clear (stock_refusals (room_of stock_rows m) rows c) → rest ≡ whole → v ≡ values
        → l ≡ stock_memory stock_rows rows c m → gives v l ≡ whole
    told-given clear e f g =
        let left = stock_refusals (room_of stock_rows m) rows c in
        (λ i. gives (f i) (g i)) ∙ sym (clear-called left values m (stock_memory stock_rows rows c m) clear) ∙ e
