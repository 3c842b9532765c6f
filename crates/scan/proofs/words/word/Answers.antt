-- The run that is counted says what is taken from any string with w as its first 64 bits. A run of less than 32 leaves
-- less than half a word behind it, so the leading one can be added and the value fits.
use Rattle.std.proofs.Common.{arith}
use Rattle.scan.specs.Runs.{read-fits}
use Rattle.scan.proofs.Begun.{taken_long, taken-word}
use Rattle.scan.proofs.words.word.Goals as goal

pub returns-then-r-gt31 : goal.returns-then-r-gt31
returns-then-r-gt31 c = λ z s h e. taken_long z s h e c.run-r.ensures (omega arith)

pub overflow_cast-result-3 : goal.overflow_cast-result-3
overflow_cast-result-3 c = record { fits = read-fits c.run-r.ensures (omega arith) }

pub returns : goal.returns
returns c = λ z s h e. taken-word z s h e c.run-r.ensures (omega arith)
