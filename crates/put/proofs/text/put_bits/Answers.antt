-- A turn puts out one group more. Behind the loop all are put out, or the last eight characters go over some that are.
use Rattle.std.proofs.Common.{◌≡◌, ◌∙◌, ◌+◌, ◌-◌, ◌*◌, length, arith}
use Rattle.bits.specs.Binary.{digits_in}
use Rattle.bits.proofs.Pieces.{length-digits}
use Rattle.put.specs.Piecewise.{text-more, text-whole, put_last}
use Rattle.put.proofs.text.put_bits.Goals as goal

pub loop-group-preserved : goal.loop-group-preserved
loop-group-preserved c =
    let word = c.args.word in
    let group = c.loop-group.group in
    let next : 8 * group + 8 ≡ 8 * (group + 1) = omega arith in
    c.put_eight.ensures
    ∙ rw (c.loop-group.invariant, ← next)
    (text-more (digits_in 64 word) (8 * group) 8 c.args.out.now (omega (arith, length-digits 64 word)))

pub returns-then-count-gt0 : goal.returns-then-count-gt0
returns-then-count-gt0 c =
    let out = c.args.out.now in
    let count = length out in
    let whole : count - 8 + 8 ≡ count = omega arith in
    let long = length-digits 64 c.args.word in
    c.put_eight-then-count-gt0.ensures
    ∙ rw whole at
    (put_last (digits_in 64 c.args.word) out (8 * c.loop-group.group) (count - 8) 8 c.loop-group.invariant (omega arith)
    (omega arith) (omega arith))
    ∙ text-whole c.args.word out c.requires

pub returns-else-count-gt0 : goal.returns-else-count-gt0
returns-else-count-gt0 c =
    let whole : 8 * c.loop-group.group ≡ length c.args.out.now = omega arith in
    rw whole at c.loop-group.invariant ∙ text-whole c.args.word c.args.out.now c.requires
