-- A turn takes a byte: it goes into the field, or ends the line, whose answer is put into the rest of the memory.
use Rattle.std.proofs.Common.{◌≡◌, length, arith}
use Rattle.list.proofs.Going.{going-full, going_fed, going-answered, going-end}
use Rattle.list.proofs.list.Goals as goal
use Rattle.list.proofs.list.Goals.{in-Some, in-None+in-Some-answer}

pub returns-in_default : goal.returns-in_default
returns-in_default c = going-full c.loop-taken.invariant (omega arith) c.in-None.ensures c.in_default.ensures

pub loop-taken-preserved : goal.loop-taken-preserved
loop-taken-preserved c =
    let g = c.loop-taken.invariant in
    elim c.match-feed.branch [
      | in-Some w ↦ rw (w.out-is, w.field-is, w.written-is) (going_fed g (omega arith) _ w.in-Some.ensures)
      | in-None+in-Some-answer w ↦
          rw (w.out-is, w.field-is, w.written-is)
          (going-answered g (omega arith) w.in-None.ensures w.in-Some-answer.ensures)
    ]

pub returns : goal.returns
returns c =
    let all : c.loop-taken.taken ≡ length c.args.input.now = omega arith in
    rw all at (going-end c.loop-taken.invariant (omega arith))
