-- What a leaf that puts out into a buffer gives and leaves: it refuses exactly where the buffer is too short, and then
-- leaves it as it was.
use Rattle.std.specs.Prelude.{◌≡◌, Bool, cond, List, ℕ, Result, Ok, Err}
use Rattle.refusals.specs.declared.Refusal.{Refusal}
use Rattle.refusals.specs.declared.Refusal.TheVariants.{WrongSize}

-- k and memory as after; or, where the buffer is short, the refusal and memory as it was
abbrev pub Put : {X : Type 0} → Bool → List ℕ → List ℕ → X → Result X Refusal → List ℕ → Type 0
Put {X} short m after k r e = ◌≡◌ {A = Result X Refusal × List ℕ} (r, e) (cond short (Err WrongSize, m) (Ok k, after))
