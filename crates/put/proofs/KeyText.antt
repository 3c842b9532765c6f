-- The text of a block's key, put out over what was lent from one word or from two.
use Rattle.std.specs.Prelude.{◌≡◌, List, ◌++◌, ℕ, ◌+◌, ◌-◌, ◌*◌, ◌%◌, ◌^◌, ◌≤◌, ◌<◌, length, take, drop, Result, Ok}
use Rattle.std.proofs.Common.{◌∙◌, arith, take-take}
use Rattle.bits.specs.Strings.{closed}
use Rattle.bits.specs.Binary.{digits_in}
use Rattle.bits.specs.Texts.{text_of, in_front}
use Rattle.blocks.specs.declared.Block.{Block}
use Rattle.blocks.specs.Blocks.{bits_of_block}
use Rattle.blocks.proofs.Laws.{block-length, block-front, block-rest}
use Rattle.refusals.specs.declared.Refusal.{Refusal}
use Rattle.put.specs.Putting.{text_put}
use Rattle.put.specs.Piecewise.{text-more}
use Rattle.put.specs.KeyText.{key-length, low_take, key-text}

module _ (b : Block) (m : List ℕ) {n : ℕ} (room : 96 ≤ length m) (count : n ≡ length (closed (bits_of_block b))) where
  pub high_text : {e : List ℕ} → n ≤ 64 → e ≡ in_front (text_of (take n (digits_in 64 b.high))) m
      → ◌≡◌ {A = Result ℕ Refusal × List ℕ} (Ok n, e) (text_put (bits_of_block b) m)
  high_text l h = key-text b m room count (rw (← block-front, take-take) at h)

  -- from both words, of which the second is put out behind the text of the first
  pub both_text : {first e : List ℕ} → 64 < n → b.low < 2 ^ 32
      → first ≡ in_front (text_of (take 64 (digits_in 64 b.high))) m
      → e ≡ take 64 first ++ in_front (text_of (take (n - 64) (digits_in 64 (b.low * 2 ^ 32 % 2 ^ 64)))) (drop 64 first)
      → ◌≡◌ {A = Result ℕ Refusal × List ℕ} (Ok n, e) (text_put (bits_of_block b) m)
  both_text l h f g =
      let s = bits_of_block b in
      let start : take 64 (digits_in 64 b.high) ≡ take 64 s =
      rw (← block-front b) (take-take 64 64 s (omega arith)) in
      let rest : take (n - 64) (digits_in 64 (b.low * 2 ^ 32 % 2 ^ 64)) ≡ take (n - 64) (drop 64 s) =
      rw block-rest (low_take b.low (n - 64) h (omega (arith, key-length b))) in
      let whole : 64 + (n - 64) ≡ n = omega arith in
      key-text b m room count
      (g ∙ rw (f, start, rest) (rw whole at (text-more s 64 (n - 64) m (omega (arith, block-length b)))))
