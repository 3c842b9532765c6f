-- Calls of a stock table on both sides of each refusal, by running the definitions.
use Rattle.std.specs.Prelude.{◌≡◌, refl, List, [], ◌∷◌, ◌++◌, map, ℕ, replicate}
use Rattle.blocks.specs.Bytewise.{low_bytes}
use Rattle.fractions.specs.Fractions.{divided_from, gcd, lowest_terms}
use Rattle.tables.specs.Layouts.{stock_rows}
use Rattle.tables.specs.Rows.{low_number, row_of, rows_in, row_bytes, table_bytes}
use Rattle.tables.specs.Sound.{sound, sound_behind, fitting}
use Rattle.tables.specs.Stocks.{passed, held_of, stocked, drawn}
use Rattle.outcomes.specs.Outcomes.{Outcome, gives, refuses}
use Rattle.outcomes.specs.Stocking.{Call, put_in, take_out, find, list_from, stock_call}

abbrev row : ℕ → ℕ → ℕ → List ℕ
row p q n = low_bytes 4 p ++ (low_bytes 4 q ++ low_bytes 4 n)

-- a table of two rows with no room for another
abbrev full : List ℕ
full = row 1 3 5 ++ row 1 2 4

abbrev run : List (Call × ℕ) → List ℕ → List Outcome
run calls m = map (λ (c, used). stock_call stock_rows c used m) calls

putting : run
    ((put_in 2 4 1, 2) ∷ (put_in 3 1 9, 2) ∷ (put_in 1 2 4294967291, 2) ∷ (put_in 1 2 4294967292, 2) ∷ (put_in 3 1 0, 2)
    ∷ (put_in 3 0 0, 2) ∷ (put_in 3 0 0, 3) ∷ [])
    full
    ≡ gives (2 ∷ 1 ∷ 5 ∷ []) (row 1 3 5 ++ row 1 2 5)
    ∷ refuses 11 3 full
    ∷ gives (2 ∷ 1 ∷ 4294967295 ∷ []) (row 1 3 5 ++ row 1 2 4294967295)
    ∷ refuses 13 3 full
    ∷ refuses 15 3 full
    ∷ refuses 1 3 full
    ∷ refuses 16 3 full
    ∷ []
unfolding stock_call rows_in row_of low_number low_bytes row_bytes table_bytes sound sound_behind fitting passed held_of stocked
    drawn lowest_terms gcd divided_from
putting = refl

-- before the rows, behind them, and with a common factor
placing : run ((put_in 0 5 1, 1) ∷ (put_in 4 6 1, 1) ∷ []) (row 1 2 3 ++ replicate 12 7)
    ≡ gives (2 ∷ 0 ∷ 1 ∷ []) (row 0 1 1 ++ row 1 2 3)
    ∷ gives (2 ∷ 1 ∷ 1 ∷ []) (row 1 2 3 ++ row 2 3 1)
    ∷ []
unfolding stock_call rows_in row_of low_number low_bytes row_bytes table_bytes sound sound_behind fitting passed held_of stocked
    drawn lowest_terms gcd divided_from
placing = refl

taking : run ((take_out 2 6 4, 2) ∷ (take_out 1 3 5, 2) ∷ (take_out 1 3 6, 2) ∷ (take_out 2 3 1, 2) ∷ (take_out 2 3 0, 2) ∷ [])
    full
    ≡ gives (2 ∷ 0 ∷ 1 ∷ []) (row 1 3 1 ++ row 1 2 4)
    ∷ gives (1 ∷ 0 ∷ 0 ∷ []) (row 1 2 4 ++ replicate 12 0)
    ∷ refuses 14 3 full
    ∷ refuses 12 3 full
    ∷ refuses 15 3 full
    ∷ []
unfolding stock_call rows_in row_of low_number low_bytes row_bytes table_bytes sound sound_behind fitting passed held_of stocked
    drawn lowest_terms gcd divided_from
taking = refl

looking : run ((find 2 6, 2) ∷ (find 3 1, 2) ∷ (list_from 1 3, 2) ∷ (list_from 2 5, 2) ∷ (list_from 1 1, 2) ∷ []) full
    ≡ gives (0 ∷ 5 ∷ []) full
    ∷ refuses 12 2 full
    ∷ gives (1 ∷ 0 ∷ 1 ∷ 3 ∷ 5 ∷ []) full
    ∷ gives (1 ∷ 1 ∷ 1 ∷ 2 ∷ 4 ∷ []) full
    ∷ gives (0 ∷ 0 ∷ 0 ∷ 0 ∷ 0 ∷ []) full
    ∷ []
unfolding stock_call rows_in row_of low_number low_bytes row_bytes table_bytes sound sound_behind fitting passed held_of
    lowest_terms gcd divided_from
looking = refl

-- what a table may not be: the numbers that a call of it gives
abbrev number : ℕ → List ℕ → ℕ
number used m = (stock_call stock_rows (find 1 2) used m).refusal

unsound : number 2 (row 1 2 4 ++ row 1 3 5) ∷ number 2 (row 1 2 4 ++ row 1 2 5) ∷ number 1 (row 2 4 1)
    ∷ number 1 (row 1 0 1) ∷ number 1 (row 1 2 0) ∷ number 2 (row 1 2 1) ∷ number 1 (row 1 2 1) ∷ number 9 []
    ∷ number 9 (row 1 2 1 ++ (0 ∷ [])) ∷ number 9 (replicate 24588 0) ∷ number 9 (replicate 24576 0) ∷ []
    ≡ 16 ∷ 16 ∷ 16 ∷ 16 ∷ 16 ∷ 16 ∷ 0 ∷ 2 ∷ 2 ∷ 2 ∷ 16 ∷ []
unfolding stock_call rows_in row_of low_number low_bytes sound sound_behind fitting passed held_of gcd divided_from
unsound = refl
