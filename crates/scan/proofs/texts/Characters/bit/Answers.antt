-- Within the text the character says the bit.
use Rattle.std.proofs.Common.{rules}
use Rattle.scan.proofs.Characters.{bit_got}
use Rattle.scan.proofs.texts.Characters.bit.Goals as goal

pub returns : goal.returns
returns c =
    let self = c.args.self in
    bit_got self.text.now self.turned c.args.i c.get.result c.map_or.result c.get.ensures.lookup.3 c.map_or.ensures
    (λ x h. search rules)
