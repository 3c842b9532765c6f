-- The outcome of a call: its refusal's number, 0 for none, its values, and the lent memory as it leaves it.
use Rattle.std.specs.Prelude.{Bool, cond, List, [], ◌∷◌, ℕ, length, replicate}

pub record Outcome : Type 0 where
  pub refusal : ℕ
  pub values : List ℕ
  pub memory : List ℕ

-- an answer is the number and the values alone; a call leaves memory beside it
pub record Answer : Type 0 where
  pub refusal : ℕ
  pub values : List ℕ

abbrev pub leaves : Answer → List ℕ → Outcome
leaves a memory = record { refusal = a.refusal; values = a.values; memory = memory }

-- the answer of a call that succeeds, and of one that refuses by number n: its values, v of them, are zero
abbrev pub given : List ℕ → Answer
given values = record { refusal = 0; values = values }

abbrev pub refused : ℕ → ℕ → Answer
refused n v = record { refusal = n; values = replicate v 0 }

abbrev pub gives : List ℕ → List ℕ → Outcome
gives values memory = leaves (given values) memory

abbrev pub refuses : ℕ → ℕ → List ℕ → Outcome
refuses n v memory = leaves (refused n v) memory

-- a refusal's number and whether its fault is there
abbrev pub Refusal : Type 0
Refusal = ℕ × Bool

-- the first number in the order whose fault is there; 0 for none
abbrev pub first_of : List Refusal → ℕ
first_of [] = 0
first_of ((n, here) ∷ l) = cond here n (first_of l)

-- a call that refuses by the first fault that is there and then leaves memory as it was before; else it gives its
-- values and leaves memory as after
abbrev pub called : List Refusal → List ℕ → List ℕ → List ℕ → Outcome
called [] values before after = gives values after
called ((n, here) ∷ l) values before after = cond here (refuses n (length values) before) (called l values before after)
