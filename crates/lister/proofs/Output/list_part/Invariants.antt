-- What stood before what is left of the part is answered; each turn takes something.
use Rattle.std.proofs.Common.{length, List, ℕ}
use Rattle.lister.specs.Flow.{Answers, Passes}
use Rattle.lister.specs.Waits.{waits}
use Rattle.lister.proofs.Output.list_part.Given as goal

abbrev pub invariant-loop-left : goal.invariant-loop-left
invariant-loop-left g l =
    record {
      text : List ℕ;
      answers : Answers l.fn.self.field l.part text l.self.field l.left;
      passes :
          Passes (g.W.Write.contents l.fn.self.to) (g.W.Write.contents l.self.to) (waits l.fn.self) text (waits l.self);
    }

abbrev pub decreases-loop-left : goal.decreases-loop-left
decreases-loop-left g l = length l.left
