-- Each way is what judging the keys, and then their bytes, gave, by `proofs/Replies.antt`.
use Rattle.compare.proofs.Replies.{first_faulty, second_faulty, stood}
use Rattle.compare.proofs.compare.Goals as goal

pub returns-in_err-judge : goal.returns-in_err-judge
returns-in_err-judge c = first_faulty _ _ _ _ c.in_err-judge.ensures c.from_residual.ensures.1

pub returns-in_err-judge-2 : goal.returns-in_err-judge-2
returns-in_err-judge-2 c =
    second_faulty _ _ c.in_ok-judge.ensures _ _ c.in_err-judge-2.ensures c.from_residual-in_err-judge-2.ensures.1

pub returns : goal.returns
returns c = stood _ _ c.in_ok-judge.ensures _ c.in_ok-judge-2.ensures c.cmp.ensures
