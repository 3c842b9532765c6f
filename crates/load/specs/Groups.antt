-- Eight characters in one machine word, the first in its lowest byte: read from a text, judged, and gathered.
use Rattle.std.specs.Prelude.{◌≡◌, refl, true, ◌∷◌, ℕ, zero, suc, ◌+◌, ◌-◌, ◌*◌, ◌/◌, ◌%◌, ◌^◌, ◌<◌, eqb, length}
use Rattle.std.proofs.Common.{◌∙◌, ap, arith, eqb-true}
use Rattle.std.proofs.Math.Decide.{dec_lt}
use Rattle.std.specs.Int.Bits.{bit_and}
use Rattle.std.proofs.lemmas.Nat.{and_le_l}
use Rattle.std.proofs.lemmas.List.{length-map}
use Rattle.bits.specs.Binary.{number_of, digits_in}
use Rattle.bits.proofs.Numbers.{number-lt}
use Rattle.bits.proofs.Pieces.{digits-of-number}
use Rattle.bits.specs.Texts.{char_of, text_of, bits_of_text}
use Rattle.blocks.specs.Bytewise.{low_bytes, ones, low_bits, table}
use Rattle.blocks.proofs.Bytewise.{length_low, and_ones, table-at}
use Rattle.load.specs.Passing.{Plain}

plain-character : (c : ℕ) → c ≡ 48 + c % 2 → char_of (eqb c 49) ≡ c
plain-character c e = by_size (dec_lt c 49)
  where
    by_size : Dec (c < 49) → char_of (eqb c 49) ≡ c
    by_size (yes l) = let zero-there : c ≡ 48 = omega arith in rw zero-there
    by_size (no l) = let one-there : c ≡ 49 = omega arith in rw one-there

-- bytes that are their lowest bits and the character 0 are a text of bits
plain-bytes : (n w : ℕ) → low_bits (low_bytes n w) + 48 * ones n ≡ w → Plain (low_bytes n w)
unfolding low_bytes low_bits
plain-bytes zero w e = refl
plain-bytes (suc n) w e =
    let first : w % 256 ≡ 48 + w % 256 % 2 = omega arith in
    let rest : low_bits (low_bytes n (w / 256)) + 48 * ones n ≡ w / 256 = omega arith in
    λ i. plain-character (w % 256) first i ∷ plain-bytes n (w / 256) rest i

pub plain_masked : (w : ℕ) → eqb (w - bit_and w (ones 8)) 3472328296227680304 ≡ true → Plain (low_bytes 8 w)
plain_masked w e =
    let masked = bit_and w (ones 8) in
    plain-bytes 8 w (omega (arith, and_ones 8 w, eqb-true (w - masked) 3472328296227680304 e, and_le_l w (ones 8)))

-- bits, one in each byte, as the code gathers them
abbrev pub packed : ℕ → ℕ
packed low = (low % 4294967296 * 16 + low / 4294967296) * 134480385 / 2 ^ 24 % 256

all-bytes : table (λ v. packed (low_bits (text_of (digits_in 8 v)))) 256 ≡ table (λ v. v) 256
unfolding table digits_in low_bits
all-bytes = refl

pub plain-packed : (w : ℕ) → Plain (low_bytes 8 w)
    → packed (bit_and w (ones 8)) ≡ number_of (bits_of_text (low_bytes 8 w))
plain-packed w plain =
    let s = bits_of_text (low_bytes 8 w) in
    let v = number_of s in
    let size : length s ≡ 8 = rw (length-map, length_low) in
    let digits : digits_in 8 v ≡ s = rw size at (digits-of-number s) in
    let masked : bit_and w (ones 8) ≡ low_bits (text_of (digits_in 8 v)) = and_ones 8 w ∙ rw (digits, plain) in
    ap packed masked
    ∙ table-at (λ v. packed (low_bits (text_of (digits_in 8 v)))) (λ v. v) 256 v (rw size at (number-lt s)) all-bytes
