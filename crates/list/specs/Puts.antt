-- Text put out at the front of lent memory.
use Rattle.std.specs.Prelude.{◌≡◌, List, ℕ, ◌≤◌, ◌<◌, length, Option, Some, None}
use Rattle.bits.specs.Texts.{in_front}

-- t is put out at the front of m, and its length given
pub record Puts (t m : List ℕ) (r : ℕ) (e : List ℕ) : Type 0 where
  pub count : r ≡ length t
  pub memory : e ≡ in_front t m

-- t is put out at the front of m where it has room bytes, and else nothing is
abbrev pub MayPut : ℕ → List ℕ → List ℕ → Option ℕ → List ℕ → Type 0
MayPut room t m (Some n) e = (room ≤ length m) × Puts t m n e
MayPut room t m None e = (length m < room) × (e ≡ m)
