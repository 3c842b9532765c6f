-- A buffer that is large enough refuses nothing.
use Rattle.std.specs.Prelude.{List, [], ◌∷◌, ℕ, ◌≤◌, length}
use Rattle.std.proofs.Common.{le-ltb}
use Rattle.outcomes.specs.Refusals.{short_buffer}
use Rattle.outcomes.specs.Laws.{Clear}

pub room : (n : ℕ) (m : List ℕ) → n ≤ length m → Clear (short_buffer n m ∷ [])
room n m h = (le-ltb (length m) n h, tt)
