-- The largest number that a numerator or a denominator may be.
use Rattle.std.specs.Prelude.{ℕ}

-- the largest number of 32 bits
abbrev pub limit : ℕ
limit = 4294967295
