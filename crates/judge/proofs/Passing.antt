-- What judging answers to a table of the wrong size.
use Rattle.std.specs.Prelude.{◌≡◌, true, List, ℕ, Err}
use Rattle.blocks.specs.declared.Block.{Block}
use Rattle.tables.specs.Layouts.{stock_rows}
use Rattle.outcomes.specs.Stocking.{wrong_table}
use Rattle.refusals.specs.declared.Refusal.TheVariants.{WrongSize}
use Rattle.judge.specs.Judging.{judged}

module _ (key : Block) (m : List ℕ) (used : ℕ) where
  -- what judging the table answers
  pub judged_wrong : true ≡ (wrong_table stock_rows m).1 → Err WrongSize ≡ judged key used m
  unfolding judged
  judged_wrong e = rw (← e)
