-- What is promised of text and column, whatever they came from: demand 2 on reading and writing again.
use Rattle.std.specs.Prelude.{◌≡◌, List, [], ◌∷◌, ℕ, ◌≤◌, length}
use Rattle.bits.specs.Strings.{closed}
use Rattle.bits.specs.Binary.{bits_of_bytes}
use Rattle.bits.specs.Texts.{text_of, bits_of_text, in_front, Bytes}
use Rattle.fractions.specs.Fractions.{◌over◌, lowest_terms, form_of}
use Rattle.keys.specs.Keys.{count_of, column_of}
use Rattle.outcomes.specs.Outcomes.{gives, first_of}
use Rattle.outcomes.specs.Refusals.{key_refusals}
use Rattle.outcomes.specs.Writing.{write_text, write_column}
use Rattle.outcomes.specs.Reading.{read_text, read_column}
use Rattle.outcomes.specs.Packing.{column_to_text, text_to_column}

pub record Again : Type 0 where
  -- What is read is in lowest terms.
  pub lowest : (k : List ℕ) (p q : ℕ) → read_text k ≡ gives (p ∷ q ∷ []) [] → lowest_terms p q ≡ p over q
  pub column_lowest : (c : List ℕ) (p q : ℕ) → read_column c ≡ gives (p ∷ q ∷ []) [] → lowest_terms p q ≡ p over q
  -- Writing what a text or a column was read as gives the same text, the same column.
  pub text : (k m : List ℕ) (p q : ℕ) → read_text k ≡ gives (p ∷ q ∷ []) [] → 96 ≤ length m
      → write_text p q m ≡ gives (length k ∷ count_of (form_of p q) ∷ []) (in_front k m)
  pub column : (c m : List ℕ) (p q : ℕ) → Bytes c → read_column c ≡ gives (p ∷ q ∷ []) [] → 12 ≤ length m
      → (write_column p q m).memory ≡ in_front c m
  -- Text and column stand for each other, both ways.
  pub packed : (k l m : List ℕ) → first_of (key_refusals k []) ≡ 0 → 12 ≤ length l → 96 ≤ length m
      → let c = column_of (bits_of_text k) in
      (text_to_column k l ≡ gives [] (in_front c l)) × (column_to_text c m ≡ gives (length k ∷ []) (in_front k m))
  pub unpacked : (c l m : List ℕ) → Bytes c → length c ≡ 12 → 96 ≤ length l → 12 ≤ length m
      → let k = text_of (closed (bits_of_bytes c)) in
      (column_to_text c l ≡ gives (length k ∷ []) (in_front k l)) × (text_to_column k m ≡ gives [] (in_front c m))
