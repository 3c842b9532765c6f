-- Comparing two text keys: refuses for the first by 3 to 6, then for the second; gives how they stand. Range isn't
-- looked at.
use Rattle.std.specs.Prelude.{true, false, cond, List, [], ◌∷◌, ℕ, ltb}
use Rattle.bits.specs.Strings.{Bits}
use Rattle.bits.specs.Texts.{bits_of_text}
use Rattle.outcomes.specs.Outcomes.{Outcome, called}
use Rattle.outcomes.specs.Refusals.{key_refusals}

-- how two things stand: 0 is none of these
abbrev pub before : ℕ
before = 1

abbrev pub same : ℕ
same = 2

abbrev pub after : ℕ
after = 3

-- how two numbers stand
abbrev pub number_standing : ℕ → ℕ → ℕ
number_standing x y = cond (ltb x y) before (cond (ltb y x) after same)

-- how two strings stand, both extended by zeros
unfoldable pub standing : Bits → Bits → ℕ
standing [] [] = same
standing [] (b ∷ t) = cond b before (standing [] t)
standing (b ∷ s) [] = cond b after (standing s [])
standing (false ∷ s) (false ∷ t) = standing s t
standing (false ∷ s) (true ∷ t) = before
standing (true ∷ s) (false ∷ t) = after
standing (true ∷ s) (true ∷ t) = standing s t

unfoldable pub compare_text : List ℕ → List ℕ → Outcome
compare_text j k =
    called (key_refusals j (key_refusals k [])) (standing (bits_of_text j) (bits_of_text k) ∷ []) [] []
