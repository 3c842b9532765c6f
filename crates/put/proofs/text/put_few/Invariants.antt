-- The characters up to the place are put out.
use Rattle.std.proofs.Common.{◌≡◌, take}
use Rattle.bits.specs.Binary.{digits_in}
use Rattle.bits.specs.Texts.{text_of, in_front}
use Rattle.put.proofs.text.put_few.Given as goal

abbrev pub invariant-loop-at : goal.invariant-loop-at
invariant-loop-at l = l.out ≡ in_front (text_of (take l.at (digits_in 64 l.word))) l.fn.out
