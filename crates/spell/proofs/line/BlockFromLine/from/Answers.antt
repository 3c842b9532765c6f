-- The line raised to 96 bits has the string's first 64 above its next 32.
use Rattle.spell.proofs.Lines.{high_fits, line_aligned}
use Rattle.spell.proofs.line.BlockFromLine.from.Goals as goal

pub overflow_cast-result : goal.overflow_cast-result
overflow_cast-result c = record { fits = high_fits c.line.invariant c.line.view_is }

pub returns : goal.returns
returns c = line_aligned c.line.invariant c.line.view_is
