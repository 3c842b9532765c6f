-- The place that seeking gives, of a row that is there or that would be.
use Rattle.std.specs.Prelude.{ℕ}
use Rattle.seek.specs.declared.Sought.{Sought}
use Rattle.seek.specs.declared.Sought.TheVariants.{Here, Absent}

abbrev pub place_of : Sought → ℕ
place_of (Here i r) = i
place_of (Absent i f) = i
