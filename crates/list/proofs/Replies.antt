-- Each text that is put out takes few bytes; and what spelling tells of the line.
use Rattle.std.specs.Prelude.{◌≡◌, List, ◌++◌, ℕ, ◌/◌, ◌^◌, ◌≤◌, ◌<◌, length, drop, Some, Result, Ok, Err, IsErr}
use Rattle.std.specs.Prelude.{IsErrAnd}
use Rattle.std.specs.Array.{IsFirstChunk}
use Rattle.std.proofs.Common.{◌∙◌, arith}
use Rattle.bits.specs.Strings.{closed}
use Rattle.blocks.specs.Blocks.{bits_of_block}
use Rattle.blocks.specs.declared.Block.{Block}
use Rattle.fractions.specs.Fractions.{◌over◌, lowest_terms}
use Rattle.outcomes.specs.Listing.{entry_of, accepted_line, refused_line}
use Rattle.put.specs.KeyText.{key-length}
use Rattle.refusals.specs.declared.Refusal.{Refusal}
use Rattle.refusals.specs.Numbers.{number_of}
use Rattle.spell.specs.Callers.{told-zero, told-key, zero-spells, key-spells, block-closed}
use Rattle.spell.specs.Spelling.{spelling}
use Rattle.spell.specs.declared.Spelled.{Spelled}
use Rattle.fields.specs.declared.Field.{Field}
use Rattle.list.specs.Puts.{Puts, MayPut}
use Rattle.list.specs.Replies.{reply_line}
use Rattle.list.specs.Ratios.{answer_with, answer_of, answer_size}
use Rattle.list.proofs.Puts.{puts-first}
use Rattle.list.specs.declared.answer.Entry.{Entry}

pub reply_err : (r : Result Entry Refusal) (e : Refusal) {t : List ℕ} → IsErr r × IsErrAnd r (λ x. x ≡ e)
    → refused_line (number_of e) ≡ t → reply_line r ≡ t
reply_err (Ok x) e (h, k) f = cc
reply_err (Err x) e (h, k) f = rw k f

-- an answer that is put into the first bytes, size of them, stands in front of the rest, and has room there
pub answer-put : (size : ℕ) (s : Field) {t m first e : List ℕ} {n : ℕ} → 130 ≤ size → IsFirstChunk m first size
    → t ≡ answer_of s → Puts t first n e → MayPut 130 (answer_of s) m (Some n) (e ++ drop size m)
answer-put size s h c e p = (
  omega (arith, c.enough),
  puts-first size c.enough (omega (arith, answer_size s)) (rw c.same at (rw e at p)),
)

-- a key has few characters
pub few_characters : (b : Block) → length (closed (bits_of_block b)) ≤ 96
few_characters = key-length

-- a denominator of 0 is refused, and the entry of the terms, divided by the divisor, and of the key is the answer
module _ (p q : ℕ) where
  pub zero-told : {e : Refusal} → Err e ≡ spelling p q → refused_line (number_of e) ≡ answer_with p q
  zero-told h = rw (zero-spells p q h) (told-zero p q (refused_line 1) (accepted_line p q) h)

  pub key-told : p < 2 ^ 32 → q < 2 ^ 32 → {s : Spelled} → Ok s ≡ spelling p q
      → entry_of ((p / s.divisor) over (q / s.divisor)) (closed (bits_of_block s.block)) s.quotients ≡ answer_with p q
  unfolding accepted_line lowest_terms
  key-told small low {s} h =
      let k = key-spells p q h in
      (λ i. entry_of ((p / k.divisor i) over (q / k.divisor i)) (block-closed k small low i) (k.quotients i))
      ∙ told-key p q (refused_line 1) (accepted_line p q) h
