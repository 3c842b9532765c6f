-- The eight characters stand in the place of the bytes that were there.
use Rattle.std.proofs.Common.{◌∙◌}
use Rattle.put.specs.Piecewise.{eight-put}
use Rattle.put.proofs.text.put_eight.Goals as goal

pub returns : goal.returns
returns c =
    eight-put c.args.word c.ranges.word.fits c.args.at c.args.out.now c.requires.0
    (c.copy_from_slice.ensures.after ∙ c.spread.ensures)
