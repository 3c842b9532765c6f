-- A turn puts out the character of one bit more.
use Rattle.std.proofs.Common.{◌≡◌, ◌∙◌, length, arith}
use Rattle.bits.specs.Binary.{digits_in}
use Rattle.bits.proofs.Pieces.{length-digits}
use Rattle.put.specs.Piecewise.{text-more, one_put, text-whole}
use Rattle.put.proofs.text.put_few.Goals as goal

pub loop-at-preserved : goal.loop-at-preserved
loop-at-preserved c =
    let word = c.args.word in
    let at = c.loop-at.at in
    one_put word c.ranges.word.fits at c.loop-at.out (omega arith) (omega arith)
    ∙ rw c.loop-at.invariant (text-more (digits_in 64 word) at 1 c.args.out.now (omega (arith, length-digits 64 word)))

pub returns : goal.returns
returns c =
    let whole : c.loop-at.at ≡ length c.args.out.now = omega arith in
    rw whole at c.loop-at.invariant ∙ text-whole c.args.word c.args.out.now (omega arith)
