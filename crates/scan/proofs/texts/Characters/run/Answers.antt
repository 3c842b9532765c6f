-- The loop ends at 32, at the end of the text or at a zero, and each way that is what is counted.
use Rattle.std.proofs.Common.{arith}
use Rattle.scan.proofs.Characters.{ran-more, ran_stopped}
use Rattle.scan.proofs.texts.Characters.run.Goals as goal

pub loop-n-preserved : goal.loop-n-preserved
loop-n-preserved c =
    let s = c.args.self in (
      omega arith,
      omega arith,
      ran-more s.text.now s.turned c.loop-n.n (omega arith) c.if-self-n-2.false c.loop-n.invariant.2,
    )

pub returns-then-self-n-2-clause-ones : goal.returns-then-self-n-2-clause-ones
returns-then-self-n-2-clause-ones c =
    let s = c.args.self in
    omega (
      arith,
      ran_stopped s.text.now s.turned c.loop-n.n (omega arith) c.if-self-n-2.true c.loop-n.invariant.2,
    )
