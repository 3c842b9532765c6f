-- A block holds a string's first 96 bits, extended by zeros, in two machine words.
use Rattle.std.specs.Prelude.{false, ◌++◌, drop}
use Rattle.bits.specs.Strings.{Bits}
use Rattle.bits.specs.Binary.{number_of, first_bits, digits_in}
use Rattle.blocks.specs.declared.Block.{Block}

-- the 96 bits of a block
unfoldable pub bits_of_block : Block → Bits
bits_of_block b = digits_in 64 b.high ++ digits_in 32 b.low

-- the block of a string
unfoldable pub block_of : Bits → Block
block_of s = record { high = number_of (first_bits false 64 s); low = number_of (first_bits false 32 (drop 64 s)) }
