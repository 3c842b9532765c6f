-- One bit is one digit.
use Rattle.std.specs.Prelude.{◌≡◌, refl, Bool, true, false, [], ◌∷◌}
use mir.Val.{bool_byte}
use Rattle.bits.specs.Binary.{digits_in}
use Rattle.spell.proofs.line.LineFromBool.from.Goals as goal

one_digit : (b : Bool) → digits_in 1 (bool_byte b) ≡ b ∷ []
unfolding digits_in
one_digit true = refl
one_digit false = refl

pub returns : goal.returns
returns c = one_digit c.args.bit
