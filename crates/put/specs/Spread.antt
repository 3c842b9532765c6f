-- The bits of a byte as the eight characters that one product, one mask and a sum make of it.
use Rattle.std.specs.Prelude.{◌≡◌, refl, List, ℕ, ◌+◌, ◌*◌, ◌/◌, ◌%◌, ◌^◌, ◌<◌}
use Rattle.std.proofs.Common.{◌∙◌, ap}
use Rattle.std.specs.Int.Bits.{bit_and}
use Rattle.bits.specs.Binary.{digits_in}
use Rattle.bits.specs.Texts.{text_of}
use Rattle.blocks.specs.Bytewise.{low_bytes, ones, low_bits, table}
use Rattle.blocks.proofs.Bytewise.{and_ones, table-at}

-- the byte at every ninth place, moved such that a wanted bit is the lowest of each byte
abbrev pub copies : ℕ → ℕ
copies v = v * 18049651735527937 / 2 ^ 7

-- the wanted bits with the last one, which the copies miss, and the character 0 added to each
abbrev pub assembled : ℕ → ℕ → ℕ
assembled v wanted = wanted + v % 2 * 2 ^ 56 % 2 ^ 64 + 3472328296227680304

-- the characters as the bytes of a number, such that it computes
characters : ℕ → List ℕ
characters v = low_bytes 8 (assembled v (low_bits (low_bytes 7 (copies v))))

all-bytes : table characters 256 ≡ table (λ v. text_of (digits_in 8 v)) 256
unfolding table characters digits_in low_bytes low_bits
all-bytes = refl

pub spread-characters : (v : ℕ) → v < 256
    → low_bytes 8 (assembled v (bit_and (copies v) (ones 7))) ≡ text_of (digits_in 8 v)
unfolding characters
spread-characters v h =
    ap (λ (x : ℕ). low_bytes 8 (assembled v x)) (and_ones 7 (copies v))
    ∙ table-at characters (λ v. text_of (digits_in 8 v)) 256 v h all-bytes
