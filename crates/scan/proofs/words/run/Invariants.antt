-- What is left is w without its first n bits, which are ones. The measure is what is missing to 32.
use Rattle.std.specs.Prelude.{◌≡◌, ◌+◌, ◌*◌, ◌-◌, ◌^◌, ◌≤◌}
use Rattle.scan.proofs.words.run.Given as goal

abbrev pub invariant-loop-n : goal.invariant-loop-n
invariant-loop-n l = (l.left + 2 ^ 64 * 2 ^ l.n ≡ l.w * 2 ^ l.n + 2 ^ 64) × (l.n ≤ 32)

abbrev pub decreases-loop-n : goal.decreases-loop-n
decreases-loop-n l = 32 - l.n
