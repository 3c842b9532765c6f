-- Reading a key: text refuses by 3, 4, 5, 6, 7, a column by 9, 7; gives numerator and denominator in lowest terms. No
-- memory is lent to be written.
use Rattle.std.specs.Prelude.{List, [], ◌∷◌, ℕ}
use Rattle.bits.specs.Texts.{bits_of_text}
use Rattle.bits.specs.Binary.{bits_of_bytes}
use Rattle.families.proofs.Published.{words1983}
use Rattle.fractions.specs.Fractions.{Ratio, lowest_terms}
use Rattle.keys.specs.Keys.{value_of_key}
use Rattle.outcomes.specs.Outcomes.{Outcome, called}
use Rattle.outcomes.specs.Refusals.{zero_denominator, key_refusals, out_of_range, wrong_column}

-- numerator and denominator
abbrev pub terms : Ratio → List ℕ
terms r = r.num ∷ r.den ∷ []

unfoldable pub read_text : List ℕ → Outcome
read_text k =
    let r = value_of_key words1983 (bits_of_text k) in
    called (key_refusals k (out_of_range r ∷ [])) (terms r) [] []

unfoldable pub read_column : List ℕ → Outcome
read_column c =
    let r = value_of_key words1983 (bits_of_bytes c) in called (wrong_column c ∷ out_of_range r ∷ []) (terms r) [] []

-- p/q in lowest terms; refuses by 1
unfoldable pub reduce : ℕ → ℕ → Outcome
reduce p q = called (zero_denominator q ∷ []) (terms (lowest_terms p q)) [] []
