-- What an entry or a refusal calls for is put into the room.
use Rattle.std.proofs.Common.{arith}
use Rattle.list.proofs.Replies.{answer-put}
use Rattle.list.proofs.answer.answer.Goals as goal

pub returns-in-Ok : goal.returns-in-Ok
returns-in-Ok c = answer-put _ c.args.field (omega arith) c.in_ok-room.ensures.cases c.in-Ok.ensures c.accept.ensures

pub returns-in-Err : goal.returns-in-Err
returns-in-Err c = answer-put _ c.args.field (omega arith) c.in_ok-room.ensures.cases c.in-Err.ensures c.refuse.ensures
