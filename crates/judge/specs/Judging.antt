-- What judging a table gives.
use Rattle.std.specs.Prelude.{Bool, false, cond, not, List, ℕ, ◌+◌, eqb, Result, Ok, Err}
use Rattle.blocks.specs.declared.Block.{Block}
use Rattle.blocks.specs.Blocks.{block_of}
use Rattle.families.proofs.Published.{words1983}
use Rattle.keys.specs.Keys.{key_of}
use Rattle.tables.specs.declared.Row.{Row}
use Rattle.tables.specs.Layouts.{stock_rows}
use Rattle.tables.specs.Rows.{row_size, rows_in}
use Rattle.tables.specs.Sound.{sound}
use Rattle.tables.specs.Stocks.{passed}
use Rattle.outcomes.specs.BlockOrder.{block_below}
use Rattle.outcomes.specs.Stocking.{wrong_table, unsound_table}
use Rattle.refusals.specs.declared.Refusal.{Refusal}
use Rattle.refusals.specs.declared.Refusal.TheVariants.{WrongSize, UnsoundTable}

abbrev pub block_of_row : Row → Block
block_of_row r = block_of (key_of words1983 r.numerator r.denominator)

-- whether a row's key stands before another
abbrev pub row_before : Block → Row → Bool
row_before key r = block_below (block_of_row r) key

-- the two tests of a row by its key
abbrev pub falls_at : ℕ → Block → Block → Bool
falls_at i last block = cond (eqb i 0) false (not (block_below last block))

abbrev pub passed_at : ℕ → ℕ → Block → Block → ℕ
passed_at below i block key = cond (eqb below i) (cond (block_below block key) (i + 1) below) below

unfoldable pub judged_rows : Block → List Row → Result ℕ Refusal
judged_rows key rows = cond (sound rows) (Ok (passed (row_before key) rows)) (Err UnsoundTable)

unfoldable pub judged : Block → ℕ → List ℕ → Result ℕ Refusal
judged key used m =
    cond (wrong_table stock_rows m).1 (Err WrongSize)
    (cond (unsound_table stock_rows used m).1 (Err UnsoundTable)
    (Ok (passed (row_before key) (rows_in (row_size stock_rows) used m))))
