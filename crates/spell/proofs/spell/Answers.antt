-- The loop goes on from a leading 0 where the ratio is below 1, and else from 1 and the word of the whole part. So it
-- gives the block of all that is written.
use Rattle.std.proofs.Common.{arith}
use Rattle.spell.proofs.Beginning.{begun-below, begun-from, begun-room, begun-answer, whole-fits}
use Rattle.spell.proofs.spell.Goals as goal

pub go_on-requires : goal.go_on-requires
go_on-requires c =
    rw c.from.ensures
    (begun-room (omega arith) (begun-below _ (omega arith) c.if-a-eq0.true) c.ranges.p.fits c.ranges.q.fits)

pub returns-then-a-eq0 : goal.returns-then-a-eq0
returns-then-a-eq0 c =
    begun-answer (omega arith) (begun-below _ (omega arith) c.if-a-eq0.true) (rw c.from.ensures at c.go_on.ensures)

pub append_word-requires-clause-room : goal.append_word-requires-clause-room
append_word-requires-clause-room c =
    rw c.from-line.ensures (whole-fits _ (omega arith) (omega arith) c.ranges.p.fits c.ranges.q.fits)

pub go_on-requires-2 : goal.go_on-requires-2
go_on-requires-2 c =
    rw (c.append_word.ensures, c.from-line.ensures)
    (begun-room (omega arith) (begun-from _ (omega arith) (omega arith)) c.ranges.p.fits c.ranges.q.fits)

pub returns : goal.returns
returns c =
    begun-answer (omega arith) (begun-from _ (omega arith) (omega arith))
    (rw (c.append_word.ensures, c.from-line.ensures) at c.go_on-2.ensures)
