-- What is left decides, last is the key of the row before, and below counts those before the key.
use Rattle.judge.specs.Rising.{Rising}
use Rattle.judge.specs.Passing.{Passing}
use Rattle.judge.proofs.judge_rows.Given as goal

abbrev pub invariant-loop-i : goal.invariant-loop-i
invariant-loop-i l = Rising l.m l.used l.last l.i × Passing l.key l.m l.used l.below l.i
