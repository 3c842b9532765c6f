-- Windows of 64 bits of a block's string, which the code makes of two machine words.
use Rattle.std.specs.Prelude.{◌≡◌, false, ℕ, ◌+◌, ◌*◌, ◌-◌, ◌/◌, ◌%◌, ◌^◌, ◌≤◌, ◌<◌, drop}
use Rattle.std.proofs.Common.{sym, arith, shr-shr, length-drop, drop-drop}
use Rattle.bits.specs.Strings.{Bits}
use Rattle.bits.specs.Binary.{number_of, first_bits}
use Rattle.bits.proofs.Sums.{number_past, number-raised, first-joined, first_shifted}
use Rattle.blocks.specs.declared.Block.{Block}
use Rattle.blocks.specs.Blocks.{bits_of_block}
use Rattle.blocks.proofs.Laws.{block-length, block_high, block_low}

-- the 64 bits of s that begin at u
abbrev pub window_at : Bits → ℕ → ℕ
window_at s u = number_of (first_bits false 64 (drop u s))

module _ (b : Block) (high : b.high < 2 ^ 64) (low : b.low < 2 ^ 32) where
  abbrev s : Bits
  s = bits_of_block b

  -- the 64 bits after the first 64, as the code makes them
  abbrev rest : ℕ
  rest = (b.low * 2 ^ 32) % 2 ^ 64

  rest-window : rest ≡ window_at s 64
  rest-window =
      rw (block_low b low) at (number-raised 64 32 (drop 64 s) (rw (length-drop, block-length)))

  -- a window that begins in the high word
  pub window_high : (u : ℕ) → u < 64 → (b.high * 2 ^ u) % 2 ^ 64 + rest / 2 / 2 ^ (63 - u) ≡ window_at s u
  window_high u h =
      let v = 1 + (63 - u) in
      let whole : u + v ≡ 64 = omega arith in
      rw (shr-shr rest 1 (63 - u), rest-window)
      (rw (whole, block_high b high) at (first-joined false u v s))

  -- or in the low word
  pub window_low : (u : ℕ) → 64 ≤ u → u < 96 → (rest * 2 ^ (u - 64)) % 2 ^ 64 ≡ window_at s u
  window_low u h l =
      let whole : u - 64 + (128 - u) ≡ 64 = omega arith in
      let place : 64 + (u - 64) ≡ u = omega arith in
      rw rest-window
      (rw (whole, drop-drop, place) at
      (first_shifted (u - 64) (128 - u) (drop 64 s) (omega (arith, length-drop 64 s, block-length b))))

  -- or behind the block
  pub window_none : (u : ℕ) → 96 ≤ u → 0 ≡ window_at s u
  window_none u h = sym (number_past 64 u s (omega (arith, block-length b)))
