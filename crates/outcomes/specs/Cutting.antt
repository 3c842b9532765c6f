-- Cutting a text key to n characters: refuses by 3 to 6, 8, 2; gives the characters written. Range isn't looked at.
use Rattle.std.specs.Prelude.{List, [], ◌∷◌, ℕ, length}
use Rattle.bits.specs.Texts.{text_of, bits_of_text, in_front}
use Rattle.keys.specs.Keys.{cut_to}
use Rattle.outcomes.specs.Outcomes.{Outcome, called}
use Rattle.outcomes.specs.Refusals.{short_buffer, key_refusals, outside}

unfoldable pub cut_text : List ℕ → ℕ → List ℕ → Outcome
cut_text k n m =
    let c = cut_to n (bits_of_text k) in
    called (key_refusals k (outside 96 n ∷ short_buffer 96 m ∷ [])) (length c ∷ []) m (in_front (text_of c) m)
