-- The divisor is the greatest common one, which is at least 1.
use Rattle.std.proofs.Common.{arith}
use Rattle.fractions.proofs.Euclid.{usual-scaled}
use Rattle.reduce.proofs.lowest_terms.Goals as goal

pub nonzero_div-result : goal.nonzero_div-result
nonzero_div-result c =
    omega (arith, c.greatest_divisor-g.ensures, (usual-scaled c.args.p c.args.q (omega arith)).positive)

pub nonzero_div-result-2 : goal.nonzero_div-result-2
nonzero_div-result-2 c =
    omega (arith, c.greatest_divisor-g.ensures, (usual-scaled c.args.p c.args.q (omega arith)).positive)
