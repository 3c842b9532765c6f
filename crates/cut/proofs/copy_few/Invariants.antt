-- The characters up to the place are copied.
use Rattle.std.proofs.Common.{◌≡◌, length, take}
use Rattle.bits.specs.Texts.{in_front}
use Rattle.cut.proofs.copy_few.Given as goal

abbrev pub invariant-loop-at : goal.invariant-loop-at
invariant-loop-at l = (length l.out ≡ length l.fn.out) × (l.out ≡ in_front (take l.at l.k) l.fn.out)
