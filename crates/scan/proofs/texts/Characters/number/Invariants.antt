-- What is read is the number of the first i digits.
use Rattle.std.specs.Prelude.{◌≡◌, suc, drop}
use Rattle.bits.specs.Binary.{number_from, first_bits}
use Rattle.scan.specs.Characters.{bits_read}
use Rattle.scan.proofs.texts.Characters.number.Given as goal

abbrev pub invariant-loop-i : goal.invariant-loop-i
invariant-loop-i l =
    let z = l.self.turned in
    l.v ≡ number_from 1 (first_bits z l.i (drop (suc l.run) (bits_read l.self.text.now z)))
