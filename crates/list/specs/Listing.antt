-- What the calls of the lister give and leave.
use Rattle.std.specs.Prelude.{◌≡◌, List, ℕ, ◌≤◌, length}
use Rattle.bits.specs.Texts.{in_front}
use Rattle.fields.specs.declared.Field.{Field}
use Rattle.lines.specs.Machines.{Stretch, stretched}
use Rattle.list.specs.declared.Listed.{Listed}
use Rattle.list.specs.Ratios.{ratios}

-- what a stretch gives, as the answer of a call
abbrev pub listed_as : Stretch Field → Listed
listed_as r = record { taken = r.taken; written = length r.text; field = r.state }

-- a stretch is taken from a field on, into the memory m: the answer, and what is left in memory. What follows from
-- these is said too, for callers: counts are within what was lent, and where there is room something is taken.
pub record Lists (s : Field) (input m : List ℕ) (r : Listed) (e : List ℕ) : Type 0 where
  pub answer : r ≡ listed_as (stretched ratios (length m) s input)
  pub memory : e ≡ in_front (stretched ratios (length m) s input).text m
  pub read : r.taken ≤ length input
  pub fits : r.written ≤ length m
  pub some : 1 ≤ length input → 130 ≤ length m → 1 ≤ r.taken
