-- The measure is the second number.
use Rattle.reduce.proofs.+greatest_divisor.Given as goal

abbrev pub decreases-greatest_divisor : goal.decreases-greatest_divisor
decreases-greatest_divisor l = l.b
