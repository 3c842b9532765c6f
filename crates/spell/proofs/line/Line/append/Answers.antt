-- The number is shifted by n bits, for which there is room, and those of w are joined to it.
use Rattle.spell.proofs.Lines.{line_appended, string_appended}
use Rattle.spell.proofs.line.Line.append.Goals as goal

pub invariant_of-self : goal.invariant_of-self
invariant_of-self c = line_appended c.self.invariant c.self.view_is _ _ c.requires.within c.requires.room

pub returns : goal.returns
returns c = string_appended c.self.invariant c.self.view_is _ _ c.requires.within c.requires.room
