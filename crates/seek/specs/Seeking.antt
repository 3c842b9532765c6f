-- Where a ratio stands among the rows of a table: what seeking gives.
use Rattle.std.specs.Prelude.{Bool, cond, ◌&&◌, List, [], ◌∷◌, ℕ, eqb, drop, Result, Ok, Err}
use Rattle.fractions.specs.Fractions.{lowest_terms}
use Rattle.tables.specs.declared.Row.{Row}
use Rattle.tables.specs.Layouts.{stock_rows}
use Rattle.tables.specs.Rows.{row_size, rows_in}
use Rattle.tables.specs.Stocks.{is_of, index_of}
use Rattle.outcomes.specs.Stocking.{wrong_table, unsound_table}
use Rattle.refusals.specs.declared.Refusal.{Refusal}
use Rattle.refusals.specs.declared.Refusal.TheVariants.{ZeroDenominator, WrongSize, UnsoundTable}
use Rattle.seek.specs.declared.Sought.{Sought}
use Rattle.seek.specs.declared.Sought.TheVariants.{Here, Absent}

-- whether a row has these terms
abbrev pub same_terms : Row → ℕ → ℕ → Bool
same_terms r x y = eqb r.numerator x && eqb r.denominator y

-- at the place i, from which on these rows stand
abbrev pub absent_at : ℕ → ℕ → ℕ → Sought
absent_at p q i =
    let v = lowest_terms p q in Absent i (record { numerator = v.num; denominator = v.den })

abbrev pub sought_at : ℕ → ℕ → ℕ → List Row → Sought
sought_at p q i [] = absent_at p q i
sought_at p q i (r ∷ l) = cond (is_of p q r) (Here i r) (absent_at p q i)

unfoldable pub sought : ℕ → ℕ → ℕ → List ℕ → Result Sought Refusal
sought used p q m =
    let rows = rows_in (row_size stock_rows) used m in
    let i = index_of p q rows in
    cond (wrong_table stock_rows m).1 (Err WrongSize)
    (cond (unsound_table stock_rows used m).1 (Err UnsoundTable)
    (cond (eqb q 0) (Err ZeroDenominator) (Ok (sought_at p q i (drop i rows)))))
