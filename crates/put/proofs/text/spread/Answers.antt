-- Of each byte it is checked that the sum's bytes are its characters.
use Rattle.std.proofs.Common.{sym, ◌∙◌}
use Rattle.blocks.proofs.Bytewise.{eight-bytes}
use Rattle.put.specs.Spread.{spread-characters}
use Rattle.put.proofs.text.spread.Goals as goal

pub returns : goal.returns
returns c = c.to_le_bytes.ensures ∙ sym (eight-bytes _) ∙ spread-characters c.args.byte c.requires
