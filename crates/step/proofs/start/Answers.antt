-- Each way is what judging gave, by `proofs/Replies.antt`; the test of the first character, which a key has, says which
-- kind is due.
use Rattle.std.proofs.Common.{arith}
use Rattle.step.proofs.Replies.{start_faulty, some-character, start-word, start_turned}
use Rattle.step.proofs.start.Goals as goal

pub returns-in_err-judge : goal.returns-in_err-judge
returns-in_err-judge c = start_faulty _ _ _ c.in_err-judge.ensures c.from_residual.ensures.1

pub bounds-k-0 : goal.bounds-k-0
bounds-k-0 c = some-character _ c.in_ok-judge.ensures

pub returns-then-k-eq49 : goal.returns-then-k-eq49
returns-then-k-eq49 c = start-word _ c.in_ok-judge.ensures (omega arith)

pub returns-else-k-eq49 : goal.returns-else-k-eq49
returns-else-k-eq49 c = start_turned _ c.in_ok-judge.ensures (λ e. omega arith)
