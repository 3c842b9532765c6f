-- Stepping through a text key, a quotient at a time. Starting refuses by 3 to 6 and gives a place. A step refuses by
-- 3 to 6, 8, 7 and gives 1 and the next quotient, or 0 and 0 at the end. The place that a step is handed and hands back
-- is stated as lent memory is: a refusal leaves it as it was.
use Rattle.std.specs.Prelude.{◌≡◌, Bool, false, not, cond, ◌⊎◌, List, [], ◌∷◌, ℕ, ◌+◌, ◌≤◌, ◌<◌, ltb, length, get_or}
use Rattle.bits.specs.Strings.{Bits}
use Rattle.bits.specs.Binary.{digit_of}
use Rattle.bits.specs.Texts.{bits_of_text}
use Rattle.families.specs.Families.{ended}
use Rattle.families.specs.Words.{word_of, first_number}
use Rattle.keys.specs.Size.{limit}
use Rattle.keys.specs.Places.{left_at}
use Rattle.outcomes.specs.Outcomes.{Outcome, gives, refuses, called}
use Rattle.outcomes.specs.Refusals.{key_refusals, long_quotient, outside}

-- a place as numbers: the characters used, and 1 where a turned word is due there, 0 where a word is
abbrev pub place_of : ℕ → Bool → List ℕ
place_of used z = used ∷ digit_of z ∷ []

-- after the first character: a word is due after 1, a turned word after 0
unfoldable pub start_text : List ℕ → Outcome
start_text k = called (key_refusals k []) (place_of 1 (not (get_or (bits_of_text k) 0 false))) [] []

-- the quotient at a place, or 0, which no quotient is, at the end
unfoldable pub quotient_at : Bits → ℕ → Bool → ℕ
quotient_at s used z = let rest = left_at s used z in cond (ended z rest) 0 (first_number z rest)

-- whether there is a quotient, and the quotient
abbrev pub found : ℕ → List ℕ
found a = digit_of (ltb 0 a) ∷ a ∷ []

-- the place after its word, where the other kind is due; at the end the same place
abbrev pub place_after : ℕ → ℕ → Bool → List ℕ
place_after a used z = cond (ltb 0 a) (place_of (used + length (word_of a)) (not z)) (place_of used z)

unfoldable pub step_text : List ℕ → ℕ → Bool → Outcome
step_text k used z =
    let a = quotient_at (bits_of_text k) used z in
    called (key_refusals k (outside 160 used ∷ long_quotient a ∷ [])) (found a) (place_of used z) (place_after a used z)

-- Stepping through k from a place gives the quotients l, each once, and then the end; or those up to the first above
-- the limit, and then refusal 7. No place on the way has more than 160 characters used.
abbrev pub Steps : List ℕ → ℕ → Bool → List ℕ → Type 0
Steps k used z [] = step_text k used z ≡ gives (0 ∷ 0 ∷ []) (place_of used z)
Steps k used z (a ∷ l) =
    ((limit < a) × (step_text k used z ≡ refuses 7 2 (place_of used z)))
    ⊎ ((next : ℕ) × (next ≤ 160) × (step_text k used z ≡ gives (1 ∷ a ∷ []) (place_of next (not z)))
    × Steps k next (not z) l)
