-- What was read is answered.
use Rattle.lister.specs.Waits.{waits}
use Rattle.lister.proofs.Flow.{Reached}
use Rattle.lister.proofs.Output.list_all.Given as goal

abbrev pub invariant-loop : goal.invariant-loop
invariant-loop g l =
    Reached (g.R.Read.remaining l.fn.from) (g.W.Write.contents l.fn.self.to) l.fn.self.field (waits l.fn.self)
    (g.R.Read.remaining l.from) (g.W.Write.contents l.self.to) l.self.field (waits l.self) l.counter
