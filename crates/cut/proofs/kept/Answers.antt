-- What is kept ends at the last 1, or at the first character.
use Rattle.std.proofs.Common.{◌∙◌}
use Rattle.cut.proofs.Ends.{kept_one, kept_first}
use Rattle.cut.proofs.kept.Goals as goal

pub returns-in-Some : goal.returns-in-Some
returns-in-Some c = kept_one c.args.k.now c.args.n c.min-m.ensures c.in-Some.ensures

pub returns-in-None : goal.returns-in-None
returns-in-None c = c.min.ensures ∙ kept_first c.args.k.now c.args.n c.min-m.ensures c.in-None.ensures
