-- The last 1 of a text.
use Rattle.std.specs.Prelude.{◌≡◌, ◌≢◌, List, Option, ℕ, ◌<◌, length, get_or, MatchOption}

-- the index of the last 1 of a text, if it has one
abbrev pub IsLastOne : List ℕ → Option ℕ → Type 0
IsLastOne k r =
    MatchOption r ((j : ℕ) → j < length k → get_or k j 0 ≢ 49)
    (λ i. (i < length k) × (get_or k i 0 ≡ 49) × ((j : ℕ) → i < j → j < length k → get_or k j 0 ≢ 49))
