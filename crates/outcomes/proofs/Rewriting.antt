-- What was read is written again as it was; and text and column stand for each other, both ways. On outcomes alone.
use Rattle.std.specs.Prelude.{◌≡◌, refl, ℕ, ◌≤◌, eqb, length}
use Rattle.std.proofs.Common.{sym, ◌∙◌, ap, arith, eq-eqb, eqb-true}
use mathlib.Core.List.{List, [], ◌∷◌, head-eq_of_cons-eq, tail-eq_of_cons-eq}
use Rattle.std.proofs.lemmas.Bool.{eqb-false, not-false}
use Rattle.std.proofs.lemmas.List.{length-map}
use Rattle.bits.specs.Strings.{Bits, closed}
use Rattle.bits.specs.Binary.{bytes_of, bits_of_bytes}
use Rattle.bits.specs.Texts.{char_of, text_of, bits_of_text, in_front, Bytes}
use Rattle.bits.proofs.Trim.{closed-same, closed-length, closed_equal}
use Rattle.bits.proofs.Columns.{bytes-same, bytes-length, bits-length, bytes_of-bits}
use Rattle.families.proofs.Published.{words1983}
use Rattle.fractions.specs.Fractions.{Ratio, ◌over◌, lowest_terms, form_of}
use Rattle.fractions.proofs.Euclid.{same-ratio}
use Rattle.keys.specs.Keys.{Canonical, key_of, count_of, value_of_key, column_of}
use Rattle.keys.proofs.Back.{closed-canonical, canonical-closed, key_value, value_key, value_denominator, value_same}
use Rattle.outcomes.specs.Outcomes.{gives}
use Rattle.outcomes.specs.Refusals.{short_buffer, key_refusals, out_of_range, wrong_column}
use Rattle.outcomes.specs.Laws.{Clear}
use Rattle.outcomes.proofs.Laws.{clear-called, gives-clear}
use Rattle.outcomes.proofs.TextKeys.{bits_of_text_lem, text-clear, clear-canonical, judged-more, judged-first}
use Rattle.outcomes.proofs.Buffers.{room}
use Rattle.outcomes.proofs.RoundTrips.{column-same, text-written, column-written}
use Rattle.outcomes.specs.Writing.{counts, write_text, write_column}
use Rattle.outcomes.specs.Reading.{terms, read_text, read_column}
use Rattle.outcomes.specs.Packing.{column_to_text, text_to_column}

-- the value and its terms
same_terms_lem : (v : Ratio) (p q : ℕ) → terms v ≡ p ∷ q ∷ [] → v ≡ p over q
same_terms_lem v p q e = same-ratio (head-eq_of_cons-eq e) (head-eq_of_cons-eq (tail-eq_of_cons-eq e))

positive-of : (k : Bits) (p q : ℕ) → value_of_key words1983 k ≡ p over q → 1 ≤ q
positive-of k p q e = rw (ap (λ (v : Ratio). v.den) e) at (value_denominator words1983 k)

-- what a canonical key is read as is in lowest terms
value_lowest : (k : Bits) (p q : ℕ) → Canonical k → value_of_key words1983 k ≡ p over q → lowest_terms p q ≡ p over q
value_lowest k p q c e =
    sym (key_value words1983 p q (positive-of k p q e))
    ∙ ap (value_of_key words1983) (value_key words1983 k p q c e) ∙ e

-- a text that is read
text_value : (k : List ℕ) (p q : ℕ) → read_text k ≡ gives (p ∷ q ∷ []) []
    → (value_of_key words1983 (bits_of_text k) ≡ p over q)
    × (Canonical (bits_of_text k) × (text_of (bits_of_text k) ≡ k))
unfolding read_text
text_value k p q e =
    let v = value_of_key words1983 (bits_of_text k) in
    let (clear, (same, none)) =
    gives-clear (key_refusals k (out_of_range v ∷ [])) (terms v) [] [] refl (p ∷ q ∷ []) [] e in
    let (canonical, (short, text)) = clear-canonical k (judged-first k (out_of_range v ∷ []) clear).0 in
    (same_terms_lem v p q same, (canonical, text))

pub text-lowest : (k : List ℕ) (p q : ℕ) → read_text k ≡ gives (p ∷ q ∷ []) [] → lowest_terms p q ≡ p over q
text-lowest k p q e =
    let (value, (canonical, text)) = text_value k p q e in value_lowest (bits_of_text k) p q canonical value

pub text-again : (k m : List ℕ) (p q : ℕ) → read_text k ≡ gives (p ∷ q ∷ []) [] → 96 ≤ length m
    → write_text p q m ≡ gives (length k ∷ count_of (form_of p q) ∷ []) (in_front k m)
text-again k m p q e h =
    let (value, (canonical, text)) = text_value k p q e in
    let key : key_of words1983 p q ≡ bits_of_text k = value_key words1983 (bits_of_text k) p q canonical value in
    let size : length (key_of words1983 p q) ≡ length k = ap length key ∙ length-map k (λ c. eqb c 49) in
    let whole : text_of (key_of words1983 p q) ≡ k = ap text_of key ∙ text in
    text-written p q m (positive-of (bits_of_text k) p q value) h
    ∙ λ i. gives (size i ∷ count_of (form_of p q) ∷ []) (in_front (whole i) m)

-- the key of a column
column-key : (c : List ℕ) → length c ≡ 12 → Canonical (closed (bits_of_bytes c))
column-key c h = by_bits (bits_of_bytes c) (omega (arith, bits-length c))
  where
    by_bits : (s : Bits) → 1 ≤ length s → Canonical (closed s)
    by_bits [] k = absurd (omega arith)
    by_bits (b ∷ s) k = canonical-closed b s

-- its column
column_of-key : (c : List ℕ) → length c ≡ 12 → Bytes c → column_of (closed (bits_of_bytes c)) ≡ c
column_of-key c h bytes =
    bytes-same 12 (closed (bits_of_bytes c)) (bits_of_bytes c) (closed-same (bits_of_bytes c))
    ∙ ap (λ (n : ℕ). bytes_of n (bits_of_bytes c)) (sym h) ∙ bytes_of-bits c bytes

-- a column that is read
column_value : (c : List ℕ) (p q : ℕ) → read_column c ≡ gives (p ∷ q ∷ []) []
    → (length c ≡ 12) × (value_of_key words1983 (closed (bits_of_bytes c)) ≡ p over q)
unfolding read_column
column_value c p q e =
    let s = bits_of_bytes c in
    let v = value_of_key words1983 s in
    let ((twelve, range), (same, none)) =
    gives-clear (wrong_column c ∷ out_of_range v ∷ []) (terms v) [] [] refl (p ∷ q ∷ []) [] e in (
      eqb-true (length c) 12 (not-false (eqb (length c) 12) twelve),
      value_same words1983 (closed s) s (closed-same s) ∙ same_terms_lem v p q same,
    )

pub column_lowest : (c : List ℕ) (p q : ℕ) → read_column c ≡ gives (p ∷ q ∷ []) [] → lowest_terms p q ≡ p over q
column_lowest c p q e =
    let (size, value) = column_value c p q e in value_lowest (closed (bits_of_bytes c)) p q (column-key c size) value

pub column-again : (c m : List ℕ) (p q : ℕ) → Bytes c → read_column c ≡ gives (p ∷ q ∷ []) [] → 12 ≤ length m
    → write_column p q m ≡ gives (counts p q) (in_front c m)
column-again c m p q bytes e h =
    let s = closed (bits_of_bytes c) in
    let (size, value) = column_value c p q e in
    let key = value_key words1983 s p q (column-key c size) value in
    let whole = ap column_of key ∙ column_of-key c size bytes in
    column-written p q m (positive-of s p q value) h ∙ λ i. gives (counts p q) (in_front (whole i) m)

-- a text key is packed, and a column unpacked
pub text-packed : (k m : List ℕ) → Clear (key_refusals k []) → 12 ≤ length m
    → text_to_column k m ≡ gives [] (in_front (column_of (bits_of_text k)) m)
unfolding text_to_column
text-packed k m clear h =
    clear-called (key_refusals k (short_buffer 12 m ∷ [])) [] m (in_front (column_of (bits_of_text k)) m)
    (judged-more k (short_buffer 12 m ∷ []) clear (room 12 m h))

abbrev pub text_of_column : List ℕ → List ℕ
text_of_column c = text_of (closed (bits_of_bytes c))

pub column-unpacked : (c m : List ℕ) → length c ≡ 12 → 96 ≤ length m
    → column_to_text c m ≡ gives (length (text_of_column c) ∷ []) (in_front (text_of_column c) m)
unfolding column_to_text
column-unpacked c m size h =
    let k = closed (bits_of_bytes c) in
    clear-called (wrong_column c ∷ short_buffer 96 m ∷ []) (length k ∷ []) m (in_front (text_of k) m)
    (rw (eq-eqb (length c) 12 size), room 96 m h)
    ∙ λ i. gives (sym (length-map k char_of) i ∷ []) (in_front (text_of k) m)

-- and each comes back from the other
pub packed_back : (k m : List ℕ) → Clear (key_refusals k []) → 96 ≤ length m
    → column_to_text (column_of (bits_of_text k)) m ≡ gives (length k ∷ []) (in_front k m)
packed_back k m clear h =
    let s = bits_of_text k in
    let size : length s ≡ length k = length-map k (λ c. eqb c 49) in
    let (canonical, (short, text)) = clear-canonical k clear in
    let key : closed (bits_of_bytes (column_of s)) ≡ s =
    closed_equal (bits_of_bytes (column_of s)) s (omega (arith, bits-length (column_of s), bytes-length 12 s))
    (omega (arith, eqb-false (length k) 0 clear.0)) (column-same s (omega arith))
    ∙ closed-canonical s canonical in
    let whole : text_of_column (column_of s) ≡ k = ap text_of key ∙ text in
    column-unpacked (column_of s) m (bytes-length 12 s) h ∙ λ i. gives (length (whole i) ∷ []) (in_front (whole i) m)

pub unpacked_back : (c m : List ℕ) → length c ≡ 12 → Bytes c → 12 ≤ length m
    → text_to_column (text_of_column c) m ≡ gives [] (in_front c m)
unpacked_back c m size bytes h =
    let k = closed (bits_of_bytes c) in
    let whole = ap column_of (bits_of_text_lem k) ∙ column_of-key c size bytes in
    text-packed (text_of k) m
    (text-clear k (column-key c size) (omega (arith, closed-length (bits_of_bytes c), bits-length c))) h
    ∙ λ i. gives [] (in_front (whole i) m)
