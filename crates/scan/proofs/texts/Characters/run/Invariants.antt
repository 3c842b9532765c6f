-- The bits passed are ones. The measure is what is missing to 32.
use Rattle.std.specs.Prelude.{◌-◌, ◌≤◌, length}
use Rattle.scan.specs.Characters.{bits_read, Ran}
use Rattle.scan.proofs.texts.Characters.run.Given as goal

abbrev pub invariant-loop-n : goal.invariant-loop-n
invariant-loop-n l = (l.n ≤ 32) × (l.n ≤ length l.self.text.now) × Ran (bits_read l.self.text.now l.self.turned) l.n

abbrev pub decreases-loop-n : goal.decreases-loop-n
decreases-loop-n l = 32 - l.n
