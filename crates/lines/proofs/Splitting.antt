-- How an input is split, in its own words: what stands before a newline is a line; what stands behind the last one is a
-- line if there is anything.
use Rattle.std.specs.Prelude.{◌≡◌, refl, List, [], ◌∷◌, ◌++◌, ℕ}
use Rattle.lines.specs.Lines.{lines_of, Unbroken}

pub line_ended : (l t : List ℕ) → Unbroken l → lines_of (l ++ (10 ∷ t)) ≡ l ∷ lines_of t
unfolding lines_of
line_ended [] t u = refl
line_ended (c ∷ l) t (e, u) = rw (e, line_ended l t u)

pub line_last : (c : ℕ) (l : List ℕ) → Unbroken (c ∷ l) → lines_of (c ∷ l) ≡ (c ∷ l) ∷ []
unfolding lines_of
line_last c [] (e, u) = rw e
line_last c (d ∷ l) (e, u) = rw (e, line_last d l u)
