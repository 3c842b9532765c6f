-- What is said of every outcome: that nothing refuses, and that it settles the answer and the memory.
use Rattle.std.specs.Prelude.{◌≡◌, false, List, [], ◌∷◌, ℕ}
use Rattle.outcomes.specs.Outcomes.{Outcome, Answer, Refusal, leaves}

-- no fault of the order is there
abbrev pub Clear : List Refusal → Type 0
Clear [] = Unit {0}
Clear ((n, here) ∷ l) = (here ≡ false) × Clear l

-- one outcome stands for one answer of a call's enum and one memory, where the number and the values tell the answer
abbrev pub Determined : {A : Type 0} → (A → Answer) → Outcome → Type 0
Determined {A} meaning o =
    (r s : A) (m n : List ℕ) → leaves (meaning r) m ≡ o → leaves (meaning s) n ≡ o → (r ≡ s) × (m ≡ n)
