-- What changing between column and text answers, by what judging, loading and putting out gave.
use Rattle.std.specs.Prelude.{◌≡◌, refl, false, cond, List, [], ◌∷◌, ℕ, ◌≤◌, ltb, length, Result, Ok, Err}
use Rattle.std.proofs.Common.{◌∙◌, arith}
use Rattle.std.proofs.lemmas.List.{length-map}
use Rattle.bits.specs.Strings as strings
use Rattle.bits.specs.Binary.{bytes_of, bits_of_bytes}
use Rattle.bits.specs.Texts.{text_of, bits_of_text, in_front}
use Rattle.bits.proofs.Trim.{closed_equal}
use Rattle.bits.proofs.Columns.{bytes-same, bits-length}
use Rattle.blocks.specs.Blocks.{bits_of_block, block_of}
use Rattle.blocks.proofs.Laws.{block-length, block-whole}
use Rattle.blocks.specs.declared.Block.{Block}
use Rattle.load.specs.Loading.{loaded}
use Rattle.load.specs.Callers.{told_wrong, told-block}
use Rattle.outcomes.specs.Outcomes.{leaves, refuses, called}
use Rattle.outcomes.specs.Refusals.{short_buffer}
use Rattle.outcomes.specs.Packing.{column_to_text, text_to_column}
use Rattle.put.specs.Putting.{text_put, column_put}
use Rattle.refusals.specs.declared.Refusal.{Refusal}
use Rattle.refusals.specs.declared.Refusal.TheVariants.{WrongSize}
use Rattle.refusals.specs.Numbers.{number_of}
use Rattle.refusals.specs.Answers.{answered, one_as}
use Rattle.refusals.proofs.Buffers.{put-called}
use Rattle.scan.specs.Judging.{judgement}
use Rattle.scan.proofs.Callers.{told_faulty, told-key}
use Rattle.scan.specs.declared.Fault.{Fault}

module _ (c m : List ℕ) where
  abbrev key : strings.Bits
  key = strings.closed (bits_of_bytes c)

  abbrev after : List ℕ
  after = in_front (text_of key) m

  pub column_wrong : (f : Refusal) → Err f ≡ loaded c → refuses (number_of f) 1 m ≡ column_to_text c m
  unfolding column_to_text
  column_wrong = told_wrong c (short_buffer 96 m ∷ []) (length key ∷ []) m after

  module _ (b : Block) (e : Ok b ≡ loaded c) (r : Result ℕ Refusal) (l : List ℕ)
      (put : ◌≡◌ {A = Result ℕ Refusal × List ℕ} (r, l) (text_put (bits_of_block b) m)) where
    told : (length c ≡ 12) × ((b ≡ block_of (bits_of_bytes c))
        × (called (short_buffer 96 m ∷ []) (length key ∷ []) m after ≡ column_to_text c m))
    unfolding column_to_text
    told = told-block c (short_buffer 96 m ∷ []) (length key ∷ []) m after b e

    size : length (bits_of_bytes c) ≡ 96
    size = omega (arith, bits-length c, told.0)

    -- the block's key is the column's
    held : strings.closed (bits_of_block b) ≡ key
    held =
        closed_equal (bits_of_block b) (bits_of_bytes c) (omega (arith, block-length b)) (omega (arith, size))
        (rw told.1.0 (block-whole (bits_of_bytes c) (omega (arith, size))))

    pub text-told : leaves (answered 1 one_as r) l ≡ column_to_text c m
    unfolding text_put
    text-told = put-called 96 1 one_as m after (length key) r l refl (rw held at put) ∙ told.1.1

module _ (k m : List ℕ) where
  abbrev stored : List ℕ
  stored = in_front (bytes_of 12 (bits_of_text k)) m

  pub text_faulty : (f : Fault) → Err f ≡ judgement k → refuses (number_of f.refusal) 0 m ≡ text_to_column k m
  unfolding text_to_column
  text_faulty = told_faulty k (short_buffer 12 m ∷ []) [] m stored

  module _ (e : Ok tt ≡ judgement k) (b : Block) (loads : b ≡ block_of (bits_of_text k)) (r : Result ℕ Refusal)
      (l : List ℕ) (put : ◌≡◌ {A = Result ℕ Refusal × List ℕ} (r, l) (column_put (bits_of_block b) m)) where
    judged : (length k ≤ 96) × (called (short_buffer 12 m ∷ []) [] m stored ≡ text_to_column k m)
    unfolding text_to_column
    judged = told-key k (short_buffer 12 m ∷ []) [] m stored e

    pub column-told : leaves (answered 0 (λ (n : ℕ). []) r) l ≡ text_to_column k m
    unfolding column_put
    column-told =
        let n = length (strings.closed (bits_of_block b)) in
        let same : strings.Same false (bits_of_block b) (bits_of_text k) =
        rw loads (block-whole (bits_of_text k) (rw length-map judged.0)) in
        let bytes = bytes-same 12 (bits_of_block b) (bits_of_text k) same in
        put-called 12 0 (λ (n : ℕ). []) m stored n r l refl
        (put ∙ λ i. cond (ltb (length m) 12) (Err WrongSize, m) (Ok n, in_front (bytes i) m))
        ∙ judged.1
