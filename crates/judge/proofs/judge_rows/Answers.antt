-- A row that isn't sound, or that doesn't stand behind the one before it, makes the table unsound. Else one row more is
-- judged, and at the end no row is left.
use Rattle.std.proofs.Common.{sym, arith}
use Rattle.bits.specs.Texts.{Bytes}
use Rattle.judge.specs.Rising.{row-zero, row_bad, row_good, rising-end, rising_unsound, rising-falls, rising-more}
use Rattle.judge.specs.Passing.{passing-more, passing-end, rows_unsound}
use Rattle.judge.proofs.judge_rows.Goals as goal
use Rattle.judge.proofs.judge_rows.Goals.{then-not-is_good-via-then-not-is_good}
use Rattle.judge.proofs.judge_rows.Goals.{then-not-is_good-via-else-not-is_good+then-falls}

pub returns-in_default : goal.returns-in_default
returns-in_default c =
    rows_unsound _ _ _ (rising_unsound _ _ _ c.loop-i.i c.loop-i.invariant.0 (omega arith)
    (rw c.row_from-row.ensures at (row-zero c.row_from-row.result c.in_default.ensures)))

pub returns-then-not-is_good : goal.returns-then-not-is_good
returns-then-not-is_good c =
    rows_unsound _ _ _ (elim c.then-not-is_good.branch [
      | then-not-is_good-via-then-not-is_good w ↦
          rising_unsound _ _ _ c.loop-i.i c.loop-i.invariant.0 (omega arith)
          (rw c.row_from-row.ensures at (row_bad c.row_from-row.result c.in-Ok.ensures w.if-not-is_good.ensures))
      | then-not-is_good-via-else-not-is_good+then-falls w ↦
          rising-falls _ _ _ (λ i. (c.type_inv.m i).fits) _ c.loop-i.i c.loop-i.invariant.0 (omega arith)
          (rw c.row_from-row.ensures at (row_good c.row_from-row.result c.in-Ok.ensures w.if-not-is_good.ensures))
          (sym w.if-falls.ensures)
    ])

pub loop-i-preserved : goal.loop-i-preserved
loop-i-preserved c =
    let bytes : Bytes c.args.m.now = λ i. (c.type_inv.m i).fits in
    let good =
    rw c.row_from-row.ensures at (row_good c.row_from-row.result c.in-Ok.ensures c.if-not-is_good.ensures) in (
      rising-more _ _ _ bytes _ c.loop-i.i c.loop-i.invariant.0 (omega arith)
          good (sym c.if-falls.ensures),
      passing-more _ _ _ c.loop-i.below c.loop-i.i c.loop-i.invariant.1 (omega arith) good.1 c.pass-below.ensures,
    )

pub returns : goal.returns
returns c =
    passing-end _ _ _ c.loop-i.below c.loop-i.i c.loop-i.invariant.1 (omega arith)
    (rising-end c.loop-i.i c.loop-i.invariant.0 (omega arith))
