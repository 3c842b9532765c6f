-- What loading a column gives: the block of its bits, where it has 12 bytes.
use Rattle.std.specs.Prelude.{cond, List, ℕ, eqb, length, Result, Ok, Err}
use Rattle.bits.specs.Binary.{bits_of_bytes}
use Rattle.blocks.specs.Blocks.{block_of}
use Rattle.blocks.specs.declared.Block.{Block}
use Rattle.refusals.specs.declared.Refusal.{Refusal}
use Rattle.refusals.specs.declared.Refusal.TheVariants.{WrongColumn}

unfoldable pub loaded : List ℕ → Result Block Refusal
loaded c = cond (eqb (length c) 12) (Ok (block_of (bits_of_bytes c))) (Err WrongColumn)
