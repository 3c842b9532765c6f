-- What judging a table tells a call that refuses a table of the wrong size and an unsound one: that it refuses so; or
-- that the rest is its answer, that the rows are sound, and how many stand before the key.
use Rattle.std.specs.Prelude.{◌≡◌, Bool, cond, ◌&&◌, ◌||◌, List, ℕ, ◌≤◌, Result, Ok, Err}
use Rattle.std.proofs.Math.Path.{refl}
use Rattle.std.proofs.Math.Bool.{true, false, not}
use borrow.Author.Tests.{ltb-false}
use Rattle.std.proofs.Math.Dec.{ltb}
use Rattle.blocks.specs.declared.Block.{Block}
use Rattle.tables.specs.Layouts.{stock_rows}
use Rattle.tables.specs.Rows.{row_size, room_of, rows_in}
use Rattle.tables.specs.Sound.{sound, fitting}
use Rattle.tables.specs.Stocks.{passed}
use Rattle.outcomes.specs.Stocking.{wrong_table, unsound_table}
use Rattle.refusals.specs.declared.Refusal.{Refusal}
use Rattle.refusals.specs.declared.Refusal.TheVariants.{WrongSize, UnsoundTable}
use Rattle.judge.specs.Judging.{row_before, judged}

-- there is room for the used rows, and they are sound
pub record Fine (used : ℕ) (m : List ℕ) : Type 0 where
  pub within : used ≤ room_of stock_rows m
  pub rows : sound (rows_in (row_size stock_rows) used m) ≡ true
  pub fits : fitting stock_rows used m ≡ true

module _ (key : Block) (used : ℕ) (m : List ℕ) {A : Type 0} (refuse : Refusal → A) (rest : A) where
  abbrev whole : A
  whole =
      cond (wrong_table stock_rows m).1 (refuse WrongSize)
      (cond (unsound_table stock_rows used m).1 (refuse UnsoundTable) rest)

  abbrev Tells : A → Result ℕ Refusal → Type 0
  Tells o (Ok below) =
      (below ≡ passed (row_before key) (rows_in (row_size stock_rows) used m)) × (Fine used m × (rest ≡ o))
  Tells o (Err e) = refuse e ≡ o

  told : (r : Result ℕ Refusal) → r ≡ judged key used m → Tells whole r
  unfolding judged
  told r e =
      rw e (by_tests (wrong_table stock_rows m).1 (ltb (room_of stock_rows m) used)
      (sound (rows_in (row_size stock_rows) used m)) (fitting stock_rows used m) refl refl refl)
    where
      n : ℕ
      n = passed (row_before key) (rows_in (row_size stock_rows) used m)

      by_tests : (w o t f : Bool) → ltb (room_of stock_rows m) used ≡ o
          → sound (rows_in (row_size stock_rows) used m) ≡ t → fitting stock_rows used m ≡ f
          → Tells (cond w (refuse WrongSize) (cond (o || not (t && f)) (refuse UnsoundTable) rest))
          (cond w (Err WrongSize) (cond (o || not (t && f)) (Err UnsoundTable) (Ok n)))
      by_tests true o t f a b c = refl
      by_tests false true t f a b c = refl
      by_tests false false false f a b c = refl
      by_tests false false true false a b c = refl
      by_tests false false true true a b c =
          (refl, (record { within = ltb-false (room_of stock_rows m) used a; rows = b; fits = c }, refl))

  pub told_refused : {e : Refusal} → Err e ≡ judged key used m → refuse e ≡ whole
  told_refused {e} h = told (Err e) h

  pub told-sound : {below : ℕ} → Ok below ≡ judged key used m
      → (below ≡ passed (row_before key) (rows_in (row_size stock_rows) used m)) × (Fine used m × (rest ≡ whole))
  told-sound {below} h = told (Ok below) h
