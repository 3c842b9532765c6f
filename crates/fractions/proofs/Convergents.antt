-- The value of quotients taken forwards, by 001's equations (3): from the last two convergents a quotient gives the
-- next.
use Rattle.std.specs.Prelude.{◌≡◌, Bool, List, [], ◌∷◌, ℕ, ◌+◌, ◌*◌, ◌≤◌}
use Rattle.std.proofs.Common.{◌∙◌, mul-le-mul_left, arith}
use Rattle.fractions.specs.Fractions.{Ratio, ◌over◌, value_of, Quotients}
use Rattle.fractions.proofs.Euclid.{same-ratio}
use Rattle.fractions.proofs.Lists.{value_spread, spread-positive}
use Rattle.fractions.specs.Convergents.{convergent, forward}

-- the value w of what is still to come, seen from u and v
abbrev seen_from : Ratio → Ratio → Ratio → Ratio
seen_from u v w = (u.num * w.num + v.num * w.den) over (u.den * w.num + v.den * w.den)

pub forward-seen : (l : List ℕ) (u v : Ratio) → forward u v l ≡ seen_from u v (value_of l)
forward-seen [] u v = same-ratio (omega arith) (omega arith)
forward-seen (a ∷ l) u v = forward-seen l (convergent a u v) u ∙ same-ratio (omega arith) (omega arith)

-- from 1/0 and 0/1 on, the last convergent is the value
pub forward_value : (l : List ℕ) → forward (1 over 0) (0 over 1) l ≡ value_of l
forward_value l = forward-seen l (1 over 0) (0 over 1) ∙ same-ratio (omega arith) (omega arith)

-- a convergent never falls, so the first over a limit settles that the last, the value, is over it
pub forward_grows : (z : Bool) (l : List ℕ) (u v : Ratio) → Quotients z l
    → (u.num ≤ (forward u v l).num) × (u.den ≤ (forward u v l).den)
forward_grows z l u v h =
    let w = value_of l in
    let k : 1 ≤ w.num = spread-positive z w (value_spread z l h) in
    rw forward-seen (omega (arith, mul-le-mul_left u.num k), omega (arith, mul-le-mul_left u.den k))
