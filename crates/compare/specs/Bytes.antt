-- The order of texts by their bytes, one that goes on after the other.
use Rattle.std.specs.Prelude.{List, [], ◌∷◌, ℕ, cond, ltb}
use Rattle.outcomes.specs.Comparing.{before, same, after}

unfoldable pub byte_standing : List ℕ → List ℕ → ℕ
byte_standing [] [] = same
byte_standing [] (b ∷ k) = before
byte_standing (a ∷ j) [] = after
byte_standing (a ∷ j) (b ∷ k) = cond (ltb a b) before (cond (ltb b a) after (byte_standing j k))
