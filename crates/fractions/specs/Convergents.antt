-- The value of quotients taken forwards, by 001's equations (3): from the last two convergents a quotient gives the
-- next.
use Rattle.std.specs.Prelude.{List, [], ◌∷◌, ℕ, ◌+◌, ◌*◌}
use Rattle.fractions.specs.Fractions.{Ratio, ◌over◌}

-- the convergent after u and, before that, v
abbrev pub convergent : ℕ → Ratio → Ratio → Ratio
convergent a u v = (a * u.num + v.num) over (a * u.den + v.den)

-- the last convergent, from u and, before that, v on
abbrev pub forward : Ratio → Ratio → List ℕ → Ratio
forward u v [] = u
forward u v (a ∷ l) = forward (convergent a u v) u l
