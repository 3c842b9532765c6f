-- The even-ended form by two states: a usual step before a word, one that leaves at least 1 before a turned word.
use Rattle.std.specs.Prelude.{Bool, true, false, List, [], ◌∷◌, ℕ, zero, suc, ◌+◌, ◌*◌, ◌-◌, ◌/◌, ◌%◌}

-- at most f steps
unfoldable pub alternate_from : ℕ → Bool → ℕ → ℕ → List ℕ
alternate_from zero z p q = []
alternate_from (suc f) z p zero = []
alternate_from (suc f) false p (suc q) = p / suc q ∷ alternate_from f true (suc q) (p % suc q)
alternate_from (suc f) true p (suc q) = (p - 1) / suc q ∷ alternate_from f false (suc q) ((p - 1) % suc q + 1)

-- at most 2q+1 steps are left before a turned word, and 2q before a word
unfoldable pub alternate : Bool → ℕ → ℕ → List ℕ
alternate z p q = alternate_from (suc (2 * q)) z p q
