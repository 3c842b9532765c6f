-- Each turn takes a turned word and a word, for which there is room. At the end nothing is to come.
use Rattle.std.proofs.Common.{arith}
use Rattle.spell.proofs.Going.{going-again, going-end, room_turned, room-word}
use Rattle.spell.proofs.go_on.Goals as goal

pub append_turned-requires-clause-room : goal.append_turned-requires-clause-room
append_turned-requires-clause-room c = room_turned (omega arith) c.loop-r.invariant.here

pub append_word-requires-clause-room : goal.append_word-requires-clause-room
append_word-requires-clause-room c = room-word (omega arith) c.loop-r.invariant.here c.append_turned.ensures

pub loop-r-preserved : goal.loop-r-preserved
loop-r-preserved c =
    going-again (omega arith) c.loop-r.invariant.here c.loop-r.invariant c.append_turned.ensures c.append_word.ensures

pub returns : goal.returns
returns c = rw c.from.ensures (going-end c.loop-r.invariant c.loop-r-test.false)
