-- There is room for one more digit, since the run is at most 31.
use Rattle.std.proofs.Common.{◌<◌, ◌^◌, arith}
use Rattle.load.specs.Gathering.{byte-small}
use Rattle.scan.specs.Characters.{bits_read}
use Rattle.scan.proofs.Characters.{digits-more, digits_fit}
use Rattle.scan.proofs.texts.Characters.number.Goals as goal

pub overflow_mul-v : goal.overflow_mul-v
overflow_mul-v c =
    let s = bits_read c.args.self.text.now c.args.self.turned in
    let fits : c.loop-i.v < 2 ^ 31 =
    digits_fit c.args.self.turned s c.args.run c.loop-i.i c.loop-i.invariant (omega arith) in
    omega arith

pub overflow_add-v : goal.overflow_add-v
overflow_add-v c =
    let s = bits_read c.args.self.text.now c.args.self.turned in
    let fits : c.loop-i.v < 2 ^ 31 =
    digits_fit c.args.self.turned s c.args.run c.loop-i.i c.loop-i.invariant (omega arith) in
    omega (arith, c.from.ensures, byte-small c.bit.result)

pub loop-i-preserved : goal.loop-i-preserved
loop-i-preserved c =
    let s = bits_read c.args.self.text.now c.args.self.turned in
    let l = c.loop-i in
    rw c.from.ensures (digits-more c.args.self.turned s c.args.run l.i l.invariant _ (omega arith) c.bit.ensures)
