-- Writing the key of p/q: refuses by 1, then 2; gives the key's characters and the quotients written.
use Rattle.std.specs.Prelude.{List, [], ◌∷◌, ℕ, length}
use Rattle.bits.specs.Texts.{text_of, in_front}
use Rattle.families.proofs.Published.{words1983}
use Rattle.fractions.specs.Fractions.{form_of}
use Rattle.keys.specs.Keys.{key_of, count_of, column_of}
use Rattle.outcomes.specs.Outcomes.{Outcome, called}
use Rattle.outcomes.specs.Refusals.{zero_denominator, short_buffer}

-- the characters of the key, and the quotients written
abbrev pub counts : ℕ → ℕ → List ℕ
counts p q = length (key_of words1983 p q) ∷ count_of (form_of p q) ∷ []

unfoldable pub write_text : ℕ → ℕ → List ℕ → Outcome
write_text p q m =
    called (zero_denominator q ∷ short_buffer 96 m ∷ []) (counts p q) m (in_front (text_of (key_of words1983 p q)) m)

unfoldable pub write_column : ℕ → ℕ → List ℕ → Outcome
write_column p q m =
    called (zero_denominator q ∷ short_buffer 12 m ∷ []) (counts p q) m (in_front (column_of (key_of words1983 p q)) m)
