-- The three demands, in their own words. Only definitions are imported: what a key and its value are is in the crate
-- `keys`, file Keys; what each call gives and leaves is in `outcomes`. The term that meets them is in DemandsMet.
use Rattle.std.specs.Prelude.{◌≡◌, Bool, ◌⊎◌, ◌↔◌, List, [], ◌∷◌, ℕ, ◌*◌, ◌-◌, ◌^◌, ◌≤◌, ◌<◌, length, replicate}
use Rattle.bits.specs.Strings.{Bits, ◌≺◌}
use Rattle.bits.specs.Binary.{bits_of_bytes}
use Rattle.bits.specs.Texts.{text_of, bits_of_text, in_front}
use Rattle.families.specs.Families.{Family}
use Rattle.families.proofs.Published.{words1983}
use Rattle.fractions.specs.Fractions.{◌over◌, lowest_terms, form_of}
use Rattle.keys.specs.Keys.{key_of, without_zero, count_of, Canonical, value_of_key, cut_to, column_of}
use Rattle.keys.specs.Size.{limit}
use Rattle.outcomes.specs.Outcomes.{Outcome, Refusal, gives, first_of}
use Rattle.outcomes.specs.Refusals.{zero_denominator, short_buffer, key_refusals, out_of_range, wrong_column}
use Rattle.outcomes.specs.Refusals.{outside, long_quotient}
use Rattle.outcomes.specs.Writing.{write_text, write_column}
use Rattle.outcomes.specs.Reading.{terms, read_text, read_column, reduce}
use Rattle.outcomes.specs.Packing.{column_to_text, text_to_column}
use Rattle.outcomes.specs.Comparing.{number_standing, compare_text}
use Rattle.outcomes.specs.Cutting.{cut_text}
use Rattle.outcomes.specs.Stepping.{place_of, start_text, quotient_at, step_text, Steps}
use Rattle.demands.specs.Ordered.{Ordered}
use Rattle.demands.specs.Again.{Again}

-- A call's number is the first in its order that applies, 0 for none. A refused call leaves what it was lent as it was,
-- and all its values are zero.
pub record Refuses (o : Outcome) (order : List Refusal) (lent : List ℕ) : Type 0 where
  pub number : o.refusal ≡ first_of order
  pub kept : (o.refusal ≡ 0 → ⊥) → (o.memory ≡ lent) × (o.values ≡ replicate (length o.values) 0)

-- Demand 1. Every call ends, as each proved function does, and checks its input itself: here is each order of refusals.
pub record Checked : Type 0 where
  -- Numbers 3 to 6 are for exactly what isn't the text of a canonical key of at most 96 characters.
  pub keys : (k : List ℕ) → (first_of (key_refusals k []) ≡ 0)
      ↔ (Canonical (bits_of_text k) × ((length k ≤ 96) × (text_of (bits_of_text k) ≡ k)))
  pub write-text : (p q : ℕ) (m : List ℕ) → Refuses (write_text p q m) (zero_denominator q ∷ short_buffer 96 m ∷ []) m
  pub write-column : (p q : ℕ) (m : List ℕ)
      → Refuses (write_column p q m) (zero_denominator q ∷ short_buffer 12 m ∷ []) m
  pub read-text : (k : List ℕ)
      → Refuses (read_text k) (key_refusals k (out_of_range (value_of_key words1983 (bits_of_text k)) ∷ [])) []
  pub read-column : (c : List ℕ)
      → Refuses (read_column c) (wrong_column c ∷ out_of_range (value_of_key words1983 (bits_of_bytes c)) ∷ []) []
  pub column-to-text : (c m : List ℕ) → Refuses (column_to_text c m) (wrong_column c ∷ short_buffer 96 m ∷ []) m
  pub text-to-column : (k m : List ℕ) → Refuses (text_to_column k m) (key_refusals k (short_buffer 12 m ∷ [])) m
  pub lowest-terms : (p q : ℕ) → Refuses (reduce p q) (zero_denominator q ∷ []) []
  pub compare : (j k : List ℕ) → Refuses (compare_text j k) (key_refusals j (key_refusals k [])) []
  pub cut : (k m : List ℕ) (n : ℕ) → Refuses (cut_text k n m) (key_refusals k (outside 96 n ∷ short_buffer 96 m ∷ [])) m
  pub start : (k : List ℕ) → Refuses (start_text k) (key_refusals k []) []
  -- What a step leaves is the place that it hands back.
  pub step : (k : List ℕ) (u : ℕ) (z : Bool) → let a = quotient_at (bits_of_text k) u z in
      Refuses (step_text k u z) (key_refusals k (outside 160 u ∷ long_quotient a ∷ [])) (place_of u z)

-- Demand 2 on writing, k being the published key of p/q.
pub record Written (p q : ℕ) (k : Bits) : Type 0 where
  -- Writing into a buffer that is large enough leaves exactly the key at its front, and gives its characters and the
  -- quotients of the even-ended form.
  pub text : (m : List ℕ) → 96 ≤ length m
      → write_text p q m ≡ gives (length k ∷ count_of (form_of p q) ∷ []) (in_front (text_of k) m)
  pub column : (m : List ℕ) → 12 ≤ length m
      → write_column p q m ≡ gives (length k ∷ count_of (form_of p q) ∷ []) (in_front (column_of k) m)
  pub sizes : (length k ≤ 96) × (count_of (form_of p q) ≤ 46)
  -- Reading it gives lowest terms.
  pub back : let r = gives (terms (lowest_terms p q)) [] in
      (read_text (text_of k) ≡ r) × (read_column (column_of k) ≡ r)

-- Demand 2. Of p/q with numerator and denominator of at most 32 bits, of text and column, and of keys over any family.
pub record Faithful : Type 0 where
  pub written : (p q : ℕ) → 1 ≤ q → p ≤ limit → q ≤ limit → Written p q (key_of words1983 p q)
  pub again : Again
  -- Stepping gives the quotients of the even-ended form that are written, and then the end.
  pub stepped : (k : List ℕ) (p q : ℕ) → first_of (key_refusals k []) ≡ 0
      → value_of_key words1983 (bits_of_text k) ≡ p over q
      → (z : Bool) × (start_text k ≡ gives (place_of 1 z) []) × Steps k 1 z (without_zero (form_of p q))
  -- Comparing gives how the ratios stand by cross products.
  pub compared : (j k : List ℕ) (p q r s : ℕ) → first_of (key_refusals j (key_refusals k [])) ≡ 0
      → value_of_key words1983 (bits_of_text j) ≡ p over q → value_of_key words1983 (bits_of_text k) ≡ r over s
      → compare_text j k ≡ gives (number_standing (p * s) (r * q) ∷ []) []
  pub ordered : (F : Family) → Ordered F

-- Demand 3.
pub record Near : Type 0 where
  -- What cutting leaves is the first n characters, by the cut rule.
  pub cut : (k m : List ℕ) (n : ℕ) → first_of (key_refusals k []) ≡ 0 → 1 ≤ n → n ≤ 96 → 96 ≤ length m
      → let c = cut_to n (bits_of_text k) in cut_text k n m ≡ gives (length c ∷ []) (in_front (text_of c) m)
  -- Take any key for a value p/q below 1 and keep its first n characters. Let a/b be the value of what remains. Then
  -- a/b is never above p/q, and (pb - aq) * 3^(n-1) < 2^(n-1) * qb.
  pub distance : (k : Bits) (n p q a b : ℕ) → Canonical k → 1 ≤ n
      → value_of_key words1983 k ≡ p over q → p < q → value_of_key words1983 (cut_to n k) ≡ a over b
      → (a * q ≤ p * b) × ((p * b - a * q) * 3 ^ (n - 1) < 2 ^ (n - 1) * (q * b))
  -- Two keys shortened to the same n never change places, though they may become equal.
  pub places : (j k : Bits) (n : ℕ) → Canonical j → Canonical k → 1 ≤ n
      → j ≺ k → (cut_to n j ≺ cut_to n k) ⊎ (cut_to n j ≡ cut_to n k)

pub record Demands : Type 0 where
  pub checked : Checked
  pub faithful : Faithful
  pub near : Near
