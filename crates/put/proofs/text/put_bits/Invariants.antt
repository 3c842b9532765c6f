-- The characters of the groups before are put out.
use Rattle.std.proofs.Common.{◌≡◌, ◌*◌, take}
use Rattle.bits.specs.Binary.{digits_in}
use Rattle.bits.specs.Texts.{text_of, in_front}
use Rattle.put.proofs.text.put_bits.Given as goal

abbrev pub invariant-loop-group : goal.invariant-loop-group
invariant-loop-group l = l.out ≡ in_front (text_of (take (8 * l.group) (digits_in 64 l.word))) l.fn.out
