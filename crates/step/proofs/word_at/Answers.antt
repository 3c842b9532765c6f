-- Each way is what judging and taking gave, by `proofs/Replies.antt`.
use Rattle.std.proofs.Common.{arith}
use Rattle.step.proofs.Replies.{step_faulty, step-outside, step-taken}
use Rattle.step.proofs.word_at.Goals as goal

pub returns-in_err-judge : goal.returns-in_err-judge
returns-in_err-judge c = step_faulty _ _ _ _ c.in_err-judge.ensures c.from_residual.ensures.1

pub returns-then-place-eq0 : goal.returns-then-place-eq0
returns-then-place-eq0 c = step-outside _ _ c.in_ok-judge.ensures (grind arith)

pub returns : goal.returns
returns c = step-taken _ _ c.in_ok-judge.ensures (omega arith) (omega arith) _ c.take_text.ensures
