-- Strings to blocks and back.
use Rattle.std.specs.Prelude.{◌≡◌, false, ℕ, ◌^◌, ◌≤◌, ◌<◌, length, take, drop}
use Rattle.std.proofs.Common.{sym, arith, length-append, take_at, drop_at}
use Rattle.bits.specs.Strings.{Bits, Same}
use Rattle.bits.specs.Binary.{number_of, first_bits, digits_in}
use Rattle.bits.proofs.Pieces.{first-add, first-take, first-same, same-rest, same_piece}
use Rattle.bits.proofs.Pieces.{length-digits, number_of-digits, digits-first}
use Rattle.blocks.specs.declared.Block.{Block}
use Rattle.blocks.specs.Blocks.{bits_of_block, block_of}

pub block-length : (b : Block) → length (bits_of_block b) ≡ 96
unfolding bits_of_block
block-length b = simp (length-append, length-digits)

-- the first 64 bits are in the high word, and the others in the low one
pub block-front : (b : Block) → take 64 (bits_of_block b) ≡ digits_in 64 b.high
unfolding bits_of_block
block-front b = take_at (digits_in 64 b.high) (digits_in 32 b.low) 64 (length-digits 64 b.high)

pub block-rest : (b : Block) → drop 64 (bits_of_block b) ≡ digits_in 32 b.low
unfolding bits_of_block
block-rest b = drop_at (digits_in 64 b.high) (digits_in 32 b.low) 64 (length-digits 64 b.high)

pub block_high : (b : Block) → b.high < 2 ^ 64 → number_of (first_bits false 64 (bits_of_block b)) ≡ b.high
block_high b h =
    rw (first-take false 64 (bits_of_block b) (omega (arith, block-length b)), block-front)
    (number_of-digits 64 b.high h)

pub block_low : (b : Block) → b.low < 2 ^ 32 → number_of (drop 64 (bits_of_block b)) ≡ b.low
block_low b l = rw block-rest (number_of-digits 32 b.low l)

-- two words that are a string's first 64 and next 32 bits are its block
pub block_made : (s : Bits) {x y : ℕ} → x ≡ number_of (first_bits false 64 s)
    → y ≡ number_of (first_bits false 32 (drop 64 s)) → record { high = x; low = y } ≡ block_of s
unfolding block_of
block_made s high low = λ i. record { high = high i; low = low i }

pub block-bits : (s : Bits) → bits_of_block (block_of s) ≡ first_bits false 96 s
unfolding bits_of_block block_of
block-bits s = rw (digits-first false 64 s, digits-first false 32 (drop 64 s)) (sym (first-add false 64 32 s))

-- strings that are one infinite string have one block
pub block-same : (s t : Bits) → Same false s t → block_of s ≡ block_of t
unfolding block_of
block-same s t e = λ i. record {
  high = number_of (first-same false 64 s t e i);
  low = number_of (first-same false 32 (drop 64 s) (drop 64 t) (same-rest false 64 s t e) i);
}

-- a block holds a string of up to 96 bits whole
pub block-whole : (s : Bits) → length s ≤ 96 → Same false (bits_of_block (block_of s)) s
block-whole s h = rw block-bits (same_piece false 96 s h)
