-- Changing between column and text. Range isn't looked at. A column refuses by 9, 2 and gives the characters written; a
-- text refuses by 3, 4, 5, 6, 2 and gives nothing.
use Rattle.std.specs.Prelude.{List, [], ◌∷◌, ℕ, length}
use Rattle.bits.specs.Strings.{closed}
use Rattle.bits.specs.Binary.{bits_of_bytes}
use Rattle.bits.specs.Texts.{text_of, bits_of_text, in_front}
use Rattle.keys.specs.Keys.{column_of}
use Rattle.outcomes.specs.Outcomes.{Outcome, called}
use Rattle.outcomes.specs.Refusals.{short_buffer, key_refusals, wrong_column}

-- the column's bits, the zeros that fill it dropped
unfoldable pub column_to_text : List ℕ → List ℕ → Outcome
column_to_text c m =
    let k = closed (bits_of_bytes c) in
    called (wrong_column c ∷ short_buffer 96 m ∷ []) (length k ∷ []) m (in_front (text_of k) m)

unfoldable pub text_to_column : List ℕ → List ℕ → Outcome
text_to_column k m =
    called (key_refusals k (short_buffer 12 m ∷ [])) [] m (in_front (column_of (bits_of_text k)) m)
