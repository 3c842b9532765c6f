-- What writing answers, by what spelling and putting out gave.
use Rattle.std.specs.Prelude.{◌≡◌, refl, List, [], ◌∷◌, ℕ, ◌^◌, ◌<◌, ltb, length, Result, Ok, Err}
use Rattle.std.proofs.Common.{◌∙◌}
use Rattle.std.proofs.Math.Bool.{cond}
use Rattle.bits.specs.Strings.{Bits, closed}
use Rattle.bits.specs.Texts.{text_of, in_front}
use Rattle.bits.proofs.Columns.{bytes-same}
use Rattle.blocks.specs.Blocks.{bits_of_block}
use Rattle.families.proofs.Published.{words1983}
use Rattle.keys.specs.Keys.{key_of, column_of}
use Rattle.outcomes.specs.Outcomes.{Answer, leaves, refuses, called}
use Rattle.outcomes.specs.Refusals.{zero_denominator, short_buffer}
use Rattle.outcomes.specs.Writing.{counts, write_text, write_column}
use Rattle.put.specs.Putting.{text_put, column_put}
use Rattle.refusals.specs.declared.Refusal.{Refusal}
use Rattle.refusals.specs.declared.Refusal.TheVariants.{WrongSize, ZeroDenominator}
use Rattle.refusals.specs.Answers.{answered}
use Rattle.refusals.specs.Buffers.{Put}
use Rattle.refusals.specs.Numbers.{number_of}
use Rattle.refusals.proofs.Buffers.{put-called}
use Rattle.spell.specs.Callers.{Spells, told-zero, zero-spells, told-key, key-spells, block-holds, block-closed}
use Rattle.spell.specs.Spelling.{spelling}
use Rattle.spell.specs.declared.Spelled.{Spelled}

-- a denominator of 0 comes before a short buffer
pub zero-told : (p q : ℕ) {e : Refusal} → Err e ≡ spelling p q → (size : ℕ) (m after : List ℕ)
    → refuses (number_of e) 2 m ≡ called (zero_denominator q ∷ short_buffer size m ∷ []) (counts p q) m after
zero-told p q h size m after = rw (zero-spells p q h) (told-zero p q _ _ h)

module _ {p q : ℕ} (small : p < 2 ^ 32) (low : q < 2 ^ 32) {s : Spelled} (e : Ok s ≡ spelling p q) where
  abbrev key : Bits
  key = key_of words1983 p q

  spells : Spells p q s
  spells = key-spells p q e

  key-held : closed (bits_of_block s.block) ≡ key
  key-held = block-closed spells small low

  -- the answer by what putting out answered
  abbrev answer : Result ℕ Refusal → Answer
  answer r = answered 2 (λ c. c ∷ s.quotients ∷ []) r

  -- t was put out into m, which wants size bytes
  told : (size : ℕ) (t m : List ℕ) {r : Result ℕ Refusal} {l : List ℕ}
      → Put (ltb (length m) size) m (in_front t m) (length key) r l
      → leaves (answer r) l ≡ called (zero_denominator q ∷ short_buffer size m ∷ []) (counts p q) m (in_front t m)
  told size t m {r} {l} put =
      put-called size 2 (λ c. c ∷ s.quotients ∷ []) m (in_front t m) (length key) r l refl put
      ∙ (λ i. called (short_buffer size m ∷ []) (length key ∷ spells.quotients i ∷ []) m (in_front t m))
      ∙ told-key p q _ _ e

  pub text-told : (m : List ℕ) {r : Result ℕ Refusal} {l : List ℕ}
      → ◌≡◌ {A = Result ℕ Refusal × List ℕ} (r, l) (text_put (bits_of_block s.block) m)
      → leaves (answer r) l ≡ write_text p q m
  unfolding text_put write_text
  text-told m put = told 96 (text_of key) m (rw key-held at put)

  pub column-told : (m : List ℕ) {r : Result ℕ Refusal} {l : List ℕ}
      → ◌≡◌ {A = Result ℕ Refusal × List ℕ} (r, l) (column_put (bits_of_block s.block) m)
      → leaves (answer r) l ≡ write_column p q m
  unfolding column_put write_column
  column-told m put =
      let bytes = bytes-same 12 (bits_of_block s.block) key (block-holds spells small low) in
      told 12 (column_of key) m
      (put ∙ λ i. cond (ltb (length m) 12) (Err WrongSize, m) (Ok (length (key-held i)), in_front (bytes i) m))

pub text-zero : (p q : ℕ) (m : List ℕ) → Err ZeroDenominator ≡ spelling p q → refuses 1 2 m ≡ write_text p q m
unfolding write_text
text-zero p q m = told-zero p q _ _

pub column-zero : (p q : ℕ) (m : List ℕ) → Err ZeroDenominator ≡ spelling p q → refuses 1 2 m ≡ write_column p q m
unfolding write_column
column-zero p q m = told-zero p q _ _
