-- Writing and reading back, as text and as column, and changing between the two: on outcomes alone.
use Rattle.std.specs.Prelude.{◌≡◌, false, List, [], ◌∷◌, ℕ, ◌≤◌, length, get_or}
use Rattle.std.proofs.Common.{◌∙◌, ap, mul-le-mul_right, arith, le-ltb, ne_eqb, eq-eqb}
use Rattle.bits.specs.Strings.{Bits, Same}
use Rattle.bits.specs.Binary.{bits_of_bytes}
use Rattle.bits.specs.Texts.{text_of, bits_of_text, in_front}
use Rattle.bits.proofs.Pieces.{same_piece}
use Rattle.bits.proofs.Columns.{bytes-length, bits_of_bytes_lem}
use Rattle.families.proofs.Published.{words1983}
use Rattle.fractions.specs.Fractions.{Ratio, lowest_terms}
use Rattle.fractions.proofs.Euclid.{usual-scaled, usual_value}
use Rattle.keys.specs.Keys.{key_of, value_of_key, column_of}
use Rattle.keys.specs.Size.{limit}
use Rattle.keys.proofs.Size.{key_size}
use Rattle.keys.proofs.Back.{key-canonical, key_value, value_same}
use Rattle.outcomes.specs.Outcomes.{gives}
use Rattle.outcomes.specs.Refusals.{zero_denominator, short_buffer, key_refusals, out_of_range, wrong_column}
use Rattle.outcomes.specs.Laws.{Clear}
use Rattle.outcomes.proofs.Laws.{clear-called}
use Rattle.outcomes.proofs.Buffers.{room}
use Rattle.outcomes.proofs.TextKeys.{bits_of_text_lem, text-clear, judged-more}
use Rattle.outcomes.specs.Writing.{counts, write_text, write_column}
use Rattle.outcomes.specs.Reading.{terms, read_text, read_column}

writing : (n p q : ℕ) (m : List ℕ) → 1 ≤ q → n ≤ length m → Clear (zero_denominator q ∷ short_buffer n m ∷ [])
writing n p q m positive h = (ne_eqb q 0 (λ e. omega arith), room n m h)

pub text-written : (p q : ℕ) (m : List ℕ) → 1 ≤ q → 96 ≤ length m
    → write_text p q m ≡ gives (counts p q) (in_front (text_of (key_of words1983 p q)) m)
unfolding write_text
text-written p q m positive h =
    clear-called (zero_denominator q ∷ short_buffer 96 m ∷ []) (counts p q) m (in_front (text_of (key_of words1983 p q)) m)
    (writing 96 p q m positive h)

pub column-written : (p q : ℕ) (m : List ℕ) → 1 ≤ q → 12 ≤ length m
    → write_column p q m ≡ gives (counts p q) (in_front (column_of (key_of words1983 p q)) m)
unfolding write_column
column-written p q m positive h =
    clear-called (zero_denominator q ∷ short_buffer 12 m ∷ []) (counts p q) m
    (in_front (column_of (key_of words1983 p q)) m) (writing 12 p q m positive h)

-- a value in range
in_range_lem : (v : Ratio) → v.num ≤ limit → v.den ≤ limit → Clear (out_of_range v ∷ [])
in_range_lem v n d = (rw (le-ltb limit v.num n, le-ltb limit v.den d), tt)

read-text : (k : List ℕ) (v : Ratio) → Clear (key_refusals k []) → value_of_key words1983 (bits_of_text k) ≡ v
    → v.num ≤ limit → v.den ≤ limit → read_text k ≡ gives (terms v) []
unfolding read_text
read-text k v c e n d =
    let r = value_of_key words1983 (bits_of_text k) in
    clear-called (key_refusals k (out_of_range r ∷ [])) (terms r) [] []
    (judged-more k (out_of_range r ∷ []) c (in_range_lem r (rw e n) (rw e d)))
    ∙ ap (λ (x : Ratio). gives (terms x) []) e

read-column : (c : List ℕ) (v : Ratio) → length c ≡ 12 → value_of_key words1983 (bits_of_bytes c) ≡ v
    → v.num ≤ limit → v.den ≤ limit → read_column c ≡ gives (terms v) []
unfolding read_column
read-column c v size e n d =
    let r = value_of_key words1983 (bits_of_bytes c) in
    clear-called (wrong_column c ∷ out_of_range r ∷ []) (terms r) [] []
    (rw (eq-eqb (length c) 12 size), in_range_lem r (rw e n) (rw e d))
    ∙ ap (λ (x : Ratio). gives (terms x) []) e

-- the bits of a column are those of its key, extended by zeros
pub column-same : (k : Bits) → length k ≤ 96 → Same false (bits_of_bytes (column_of k)) k
column-same k h i = ap (λ (s : Bits). get_or s i false) (bits_of_bytes_lem 12 k) ∙ same_piece false 96 k h i

-- lowest terms are no larger than the terms that they come from
lowest-small : (p q : ℕ) → 1 ≤ q → ((lowest_terms p q).num ≤ p) × ((lowest_terms p q).den ≤ q)
lowest-small p q h =
    let v = lowest_terms p q in
    let s = rw (usual_value p q h) at (usual-scaled p q h) in (
      omega (arith, s.above, mul-le-mul_right v.num s.positive),
      omega (arith, s.below, mul-le-mul_right v.den s.positive),
    )

-- what was written is read back in lowest terms
module _ (p q : ℕ) (positive : 1 ≤ q) (small : p ≤ limit) (low : q ≤ limit) where
  abbrev key : Bits
  key = key_of words1983 p q

  abbrev lowest : Ratio
  lowest = lowest_terms p q

  size : length key ≤ 96
  size = key_size words1983 p q positive small low

  num_small : lowest.num ≤ limit
  num_small = omega (arith, (lowest-small p q positive).0)

  den_small : lowest.den ≤ limit
  den_small = omega (arith, (lowest-small p q positive).1)

  pub text_back : read_text (text_of key) ≡ gives (terms lowest) []
  text_back =
      read-text (text_of key) lowest (text-clear key (key-canonical words1983 p q positive) size)
      (ap (value_of_key words1983) (bits_of_text_lem key) ∙ key_value words1983 p q positive) num_small den_small

  pub column_back : read_column (column_of key) ≡ gives (terms lowest) []
  column_back =
      read-column (column_of key) lowest (bytes-length 12 key)
      (value_same words1983 (bits_of_bytes (column_of key)) key (column-same key size) ∙ key_value words1983 p q positive)
      num_small den_small
