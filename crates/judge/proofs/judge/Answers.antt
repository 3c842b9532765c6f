-- More rows used than there is room for are unsound.
use Rattle.judge.specs.Passing.{judged_over}
use Rattle.judge.proofs.judge.Goals as goal

pub returns-then-m-used : goal.returns-then-m-used
returns-then-m-used c = judged_over _ _ _ c.if-is_wrong.ensures c.if-m-used.true
