-- A text's bits gathered into a machine word from its characters, and the parts of a text as parts of its string.
use Rattle.std.specs.Prelude.{◌≡◌, refl, Bool, true, false, List, [], ◌∷◌, ℕ, zero, suc, ◌+◌, ◌*◌, ◌-◌, ◌%◌, ◌/◌, ◌^◌, ◌≤◌, ◌<◌, min, eqb, length, get_or, take, drop}
use Rattle.std.proofs.Math.Decide.{dec_lt}
use Rattle.std.proofs.Common.{sym, ap, ◌∙◌, add-one, arith, pow_mono, take-suc, take-add, take_all, length-take-le, length-drop}
use Rattle.std.proofs.lemmas.List.{map-append, length-map, get_or-drop}
use mir.Val.{bool_byte}
use Rattle.bits.specs.Strings.{Bits}
use Rattle.bits.proofs.Pieces.{drop-map}
use Rattle.bits.specs.Binary.{digit_of, number_of, first_bits}
use Rattle.bits.specs.Texts.{bits_of_text}
use Rattle.bits.proofs.Memory.{lent_part}
use Rattle.bits.proofs.Numbers.{number_from_lem, number-append, number-lt}
use Rattle.bits.proofs.Sums.{number_past, number-raised, first_shorter}
use Rattle.blocks.specs.Blocks.{block_of}
use Rattle.blocks.proofs.Laws.{block_made}

-- the first 64 bits of a text, extended by zeros, as a number
abbrev pub top_word : List ℕ → ℕ
top_word k = number_of (first_bits false 64 (bits_of_text k))

-- v is the number of the first i characters
abbrev pub Gathered : List ℕ → ℕ → ℕ → Type 0
Gathered k v i = v ≡ number_of (bits_of_text (take i k))

-- a piece isn't changed by what is cut off after it
text-take : (n : ℕ) (k : List ℕ) → first_bits false n (bits_of_text (take n k)) ≡ first_bits false n (bits_of_text k)
text-take zero k = refl
text-take (suc n) [] = refl
text-take (suc n) (c ∷ k) = ap {B = Bits} (λ r. eqb c 49 ∷ r) (text-take n k)

-- a bit as the code has it
pub byte_digit : (b : Bool) → bool_byte b ≡ digit_of b
byte_digit true = refl
byte_digit false = refl

pub byte-small : (b : Bool) → bool_byte b ≤ 1
byte-small true = omega arith
byte-small false = omega arith

-- a string at the top of a machine word, by a shift of less than 64: an empty string is 0 wherever it stands
raised : (s : Bits) → length s ≤ 64
    → (number_of s * 2 ^ ((64 - length s) % 64)) % 2 ^ 64 ≡ number_of (first_bits false 64 s)
raised [] h = refl
raised (b ∷ s) h =
    let lacking = 64 - length (b ∷ s) in
    let short : lacking % 64 ≡ lacking = omega arith in
    rw short (number-raised 64 lacking (b ∷ s) (omega arith))

module _ (k : List ℕ) {v : ℕ} (i : ℕ) (g : Gathered k v i) where
  -- up to m characters are up to m bits
  pub gathered-fits : (m : ℕ) → i ≤ length k → i ≤ m → v < 2 ^ m
  gathered-fits m h l =
      let size : length (bits_of_text (take i k)) ≡ i = rw length-map (length-take-le i k h) in
      omega (arith, g, rw size at (number-lt (bits_of_text (take i k))), pow_mono {i = i} {j = m} l)

  -- n characters more, of which x is the number
  pub gathered-group : {t : List ℕ} (n : ℕ) {x : ℕ} → length t ≡ n → t ≡ take n (drop i k)
      → x ≡ number_of (bits_of_text t) → Gathered k (v * 2 ^ n + x) (i + n)
  gathered-group {t} n size e f =
      let more : length (bits_of_text t) ≡ n = rw length-map size in
      rw (take-add i n k, ← e, map-append, number-append, ← g, number_from_lem v (bits_of_text t), more, f)

  pub gathered-more : (d : ℕ) → i < length k → Gathered k (2 * v + bool_byte (eqb (get_or k i d) 49)) (i + 1)
  gathered-more d h =
      rw (add-one, take-suc k i d, map-append, number-append, g, byte_digit (eqb (get_or k i d) 49))

  pub gathered-all : i ≡ length k → i ≤ 64 → (v * 2 ^ ((64 - i) % 64)) % 2 ^ 64 ≡ top_word k
  gathered-all e h =
      let whole : v ≡ number_of (bits_of_text k) = g ∙ rw (take_all i k (omega arith)) in
      let size : i ≡ length (bits_of_text k) = rw length-map e in
      rw (whole, size) (raised (bits_of_text k) (omega arith))

-- what is lent behind the first p characters
module _ (k : List ℕ) (p : ℕ) where
  abbrev pub behind : List ℕ
  behind = take (length k - p) (drop p k)

  pub behind-size : length behind ≡ length k - p
  behind-size = rw lent_part (length-drop p k)

  pub behind-at : (i : ℕ) → get_or behind i 0 ≡ get_or k (p + i) 0
  behind-at i = rw (lent_part, get_or-drop)

pub short_loaded : (k : List ℕ) {x : ℕ} → length k ≤ 64 → x ≡ top_word k
    → record { high = x; low = 0 } ≡ block_of (bits_of_text k)
short_loaded k h e =
    let s = bits_of_text k in block_made s e (sym (number_past 32 64 s (rw length-map h)))

module _ (k : List ℕ) {x y : ℕ} (e : x ≡ top_word (take 64 k)) where
  -- y has the bits after the first 64, of which a block holds 32
  loaded-from : (l : List ℕ) → y ≡ top_word l
      → first_bits false 32 (bits_of_text l) ≡ first_bits false 32 (bits_of_text (drop 64 k))
      → record { high = x; low = y / 4294967296 } ≡ block_of (bits_of_text k)
  loaded-from l f g =
      block_made (bits_of_text k) (e ∙ rw text-take)
      (rw f (first_shorter false 32 32 (bits_of_text l) ∙ rw (g, drop-map)))

  pub rest-loaded : y ≡ top_word (take (length k - 64) (drop 64 k))
      → record { high = x; low = y / 4294967296 } ≡ block_of (bits_of_text k)
  rest-loaded f = loaded-from (take (length k - 64) (drop 64 k)) f (rw (lent_part k 64))

  pub part_loaded : y ≡ top_word (take 32 (drop 64 k))
      → record { high = x; low = y / 4294967296 } ≡ block_of (bits_of_text k)
  part_loaded f = loaded-from (take 32 (drop 64 k)) f (text-take 32 (drop 64 k))

  -- up to 32 characters behind the first 64
  pub cut-loaded : y ≡ top_word (take (min (length k) 96 - 64) (drop 64 k))
      → record { high = x; low = y / 4294967296 } ≡ block_of (bits_of_text k)
  cut-loaded f = by_size (dec_lt 96 (length k))
    where
      by_size : Dec (96 < length k) → record { high = x; low = y / 4294967296 } ≡ block_of (bits_of_text k)
      by_size (yes l) = let most : min (length k) 96 - 64 ≡ 32 = omega arith in part_loaded (rw most at f)
      by_size (no l) = let all : min (length k) 96 - 64 ≡ length k - 64 = omega arith in rest-loaded (rw all at f)
