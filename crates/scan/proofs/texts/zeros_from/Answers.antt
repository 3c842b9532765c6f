-- No character from there on is a 1.
use Rattle.std.specs.Prelude.{not, ◌-◌, eqb, length, take, drop}
use Rattle.std.proofs.Common.{◌∙◌, rules, tests}
use Rattle.std.proofs.lemmas.Iterator.{YieldsList-from_slice}
use Rattle.std.proofs.lemmas.Iterator.Search.{all_from_yields_List}
use Rattle.bits.proofs.Memory.{lent_part}
use Rattle.scan.proofs.Characters.{zeros_are}
use Rattle.scan.proofs.texts.zeros_from.Goals as goal

pub returns : goal.returns
returns c =
    let k = c.args.k.now in
    let at = c.args.at in
    let found =
    all_from_yields_List (λ b. not (eqb b 49)) _ _ c.all.result c.all.ensures.ran
    (YieldsList-from_slice (take (length k - at) (drop at k)) cc) (λ x b q h. search (rules, tests)) in
    (rw lent_part at found) ∙ zeros_are at k
