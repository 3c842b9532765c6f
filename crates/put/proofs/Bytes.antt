-- The bytes of a block's bits from its two words, the low one put out behind the first eight bytes.
use Rattle.std.specs.Prelude.{◌≡◌, List, ◌++◌, ℕ, ◌^◌, ◌<◌, ◌-◌, length, take, drop}
use Rattle.std.proofs.Common.{sym, ◌∙◌, ap}
use Rattle.bits.specs.Binary.{bytes_of}
use Rattle.bits.specs.Texts.{in_front}
use Rattle.bits.proofs.Memory.{front-more, lent_back}
use Rattle.blocks.specs.declared.Block.{Block}
use Rattle.blocks.specs.Blocks.{bits_of_block}
use Rattle.put.specs.Bytes.{bytes_in, length-bytes, block-bytes}

-- the two words put out, the low one at the front of what was lent behind the first eight bytes
pub words-front : (b : Block) (m : List ℕ) {xs ys : List ℕ} → b.high < 2 ^ 64 → b.low < 2 ^ 32
    → xs ≡ in_front (bytes_in 8 b.high) m → ys ≡ in_front (bytes_in 4 b.low) (take (length xs - 8) (drop 8 xs))
    → take 8 xs ++ (ys ++ drop (length xs - 8) (drop 8 xs)) ≡ in_front (bytes_of 12 (bits_of_block b)) m
words-front b m {xs} h l d e =
    let first = bytes_in 8 b.high in
    let second = bytes_in 4 b.low in
    lent_back second xs 8 e
    ∙ rw d (front-more first second m 8 (length-bytes 8 b.high))
    ∙ ap (λ (t : List ℕ). in_front t m) (sym (block-bytes b h l))
