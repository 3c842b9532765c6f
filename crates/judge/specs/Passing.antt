-- The rows at the front that stand before a key, counted row by row; and what judging answers then.
use Rattle.std.specs.Prelude.{◌≡◌, Bool, not, ◌&&◌, List, ◌∷◌, ℕ, suc, ◌+◌, ◌*◌, ◌-◌, ◌≤◌, ◌<◌, eqb, drop, Ok, Err}
use Rattle.std.proofs.Math.Path.{refl}
use Rattle.std.proofs.Common.{sym, ◌∙◌, add-one, arith}
use Rattle.std.proofs.Math.Bool.{true, false, cond}
use Rattle.std.proofs.Math.Decide.{dec_lt}
use borrow.Author.Tests.{lt-ltb, le-ltb, eq-eqb, ne_eqb}
use Rattle.blocks.specs.declared.Block.{Block}
use Rattle.outcomes.specs.BlockOrder.{block_below}
use Rattle.outcomes.specs.Stocking.{wrong_table}
use Rattle.tables.specs.Layouts.{stock_rows}
use Rattle.tables.specs.Rows.{room_of, row_of, rows_in}
use Rattle.tables.specs.Sound.{sound}
use Rattle.tables.specs.Stocks.{passed}
use Rattle.tables.proofs.Tables.{rows_from, rows-next, rows-end, plain-fits}
use Rattle.refusals.specs.declared.Refusal.TheVariants.{UnsoundTable}
use Rattle.judge.specs.Judging.{block_of_row, row_before, passed_at, judged_rows, judged}

module _ (key : Block) (m : List ℕ) (used : ℕ) where
  -- how many rows stand before the key: of all, and of those from i on
  abbrev all : ℕ
  all = passed (row_before key) (rows_in 12 used m)

  abbrev from : ℕ → ℕ
  from i = passed (row_before key) (rows_from 12 m used i)

  -- below of the i rows in front do; where that isn't all of them, it is the answer
  pub record Passing (below i : ℕ) : Type 0 where
    pub few : below ≤ i
    pub ended : below < i → all ≡ below
    pub going : below ≡ i → all ≡ i + from i

  pub passing-start : Passing 0 0
  passing-start =
      let same : used - 0 ≡ used = omega arith in
      record { few = omega arith; ended = λ h. absurd (omega arith); going = λ h. rw same (omega arith) }

  pub passing-more : (below i : ℕ) {b : Block} {n : ℕ} → Passing below i → i < used
      → b ≡ block_of_row (row_of (drop (12 * i) m)) → n ≡ passed_at below i b key → Passing n (i + 1)
  unfolding passed
  passing-more below i {b} {n} g h same e = rw e (by_size (dec_lt below i) (block_below b key) refl)
    where
      next : rows_from 12 m used i ≡ row_of (drop (12 * i) m) ∷ rows_from 12 m used (suc i)
      next = rows-next 12 m used i h

      by_size : Dec (below < i) → (t : Bool) → block_below b key ≡ t
          → Passing (cond (eqb below i) (cond t (i + 1) below) below) (i + 1)
      by_size (yes less) t f =
          rw (ne_eqb below i (λ z. omega arith))
          record { few = omega arith; ended = λ k. g.ended less; going = λ k. absurd (omega arith) }
      by_size (no more) true f =
          let here : below ≡ i = omega (arith, g.few) in
          rw (eq-eqb below i here) record {
            few = omega arith;
            ended = λ k. absurd (omega arith);
            going = λ k. g.going here ∙ rw (next, ← same, f, add-one) (omega arith);
          }
      by_size (no more) false f =
          let here : below ≡ i = omega (arith, g.few) in
          rw (eq-eqb below i here) record {
            few = omega arith;
            ended = λ k. g.going here ∙ rw (next, ← same, f) (omega arith);
            going = λ k. absurd (omega arith);
          }

  -- what judging the rows answers
  pub passing-end : (below i : ℕ) → Passing below i → used ≤ i → sound (rows_in 12 used m) ≡ true
      → Ok below ≡ judged_rows key (rows_in 12 used m)
  unfolding judged_rows passed
  passing-end below i g h fine = rw fine λ j. Ok (sym (by_size (dec_lt below i)) j)
    where
      by_size : Dec (below < i) → all ≡ below
      by_size (yes less) = g.ended less
      by_size (no more) =
          let here : below ≡ i = omega (arith, g.few) in
          g.going here ∙ rw (rows-end 12 m used i h) (omega arith)

  pub rows_unsound : sound (rows_in 12 used m) ≡ false → Err UnsoundTable ≡ judged_rows key (rows_in 12 used m)
  unfolding judged_rows
  rows_unsound e = rw e

  -- what judging the table answers
  pub judged_over : false ≡ (wrong_table stock_rows m).1 → room_of stock_rows m < used
      → Err UnsoundTable ≡ judged key used m
  unfolding judged
  judged_over e h = rw (← e, lt-ltb (room_of stock_rows m) used h)

  pub judged_rows_lem : false ≡ (wrong_table stock_rows m).1 → used ≤ room_of stock_rows m
      → judged_rows key (rows_in 12 used m) ≡ judged key used m
  unfolding judged judged_rows
  judged_rows_lem e h =
      rw (← e, le-ltb (room_of stock_rows m) used h, plain-fits used m) (by_test (sound (rows_in 12 used m)))
    where
      by_test : (t : Bool) → cond t (Ok all) (Err UnsoundTable) ≡ cond (not (t && true)) (Err UnsoundTable) (Ok all)
      by_test true = refl
      by_test false = refl
