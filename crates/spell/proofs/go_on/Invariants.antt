-- What is written and what is still to come make the string, the count and the divisor that the start asks for. The
-- measure is the remainder, which falls in each turn.
use Rattle.spell.proofs.Going.{Going}
use Rattle.spell.proofs.go_on.Given as goal

abbrev pub invariant-loop-r : goal.invariant-loop-r
invariant-loop-r l = Going l.fn.d l.fn.r l.fn.line l.fn.quotients l.d l.r l.line l.quotients

abbrev pub decreases-loop-r : goal.decreases-loop-r
decreases-loop-r l = l.r
