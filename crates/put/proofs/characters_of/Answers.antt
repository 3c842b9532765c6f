-- The zeros behind a key are counted on the word in which it ends: the low one, unless that holds zeros alone.
use Rattle.std.proofs.Common.{rules}
use Rattle.put.specs.Trailing.{characters_high, characters_low}
use Rattle.put.proofs.characters_of.Goals as goal

pub returns-then-b-eq0 : goal.returns-then-b-eq0
returns-then-b-eq0 c = characters_high c.args.b (search rules) c.if-b-eq0.true

pub returns-else-b-eq0 : goal.returns-else-b-eq0
returns-else-b-eq0 c = characters_low c.args.b (search rules) c.if-b-eq0.false
