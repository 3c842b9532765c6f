-- Where the writer's loop begins, and what its answer is then: the leading character, from 1 on with the word of the
-- whole part, and then the words to come.
use Rattle.std.specs.Prelude.{◌≡◌, refl, true, false, List, [], ◌∷◌, ◌++◌, Result, Ok}
use Rattle.std.specs.Prelude.{ℕ, zero, suc, ◌+◌, ◌/◌, ◌%◌, ◌^◌, ◌≤◌, ◌<◌}
use Rattle.std.proofs.Math.Path.{sym}
use Rattle.std.proofs.Common.{◌∙◌, ap, div-add-mod', mod-lt, one-add, arith, ne_eqb, lit≤, length-append}
use Rattle.std.proofs.Math.ListN.{length}
use Rattle.bits.specs.Strings.{Bits, turn, closed}
use Rattle.bits.proofs.Trim.{closed-same}
use Rattle.blocks.specs.Blocks.{block_of}
use Rattle.blocks.proofs.Laws.{block-same}
use Rattle.families.specs.Words.{word_of}
use Rattle.families.proofs.Published.{words1983}
use Rattle.fractions.specs.Fractions.{gcd, form_of}
use Rattle.fractions.proofs.Euclid.{gcd-step}
use Rattle.fractions.proofs.TwoStates.{alternate-word, alternate-form}
use Rattle.keys.specs.Keys.{spelled, written, key_of, count_of}
use Rattle.keys.proofs.Size.{written_size, count_size}
use Rattle.spell.specs.declared.Spelled.{Spelled}
use Rattle.refusals.specs.declared.Refusal.{Refusal}
use Rattle.spell.specs.Spelling.{spelling, spelt, to_come, words_to_come, Room}

-- front is what is written for p/q before the turned state of q and what is left, and count its quotients
pub record Begun (p q : ℕ) (front : Bits) (count : ℕ) : Type 0 where
  pub whole : written words1983 (form_of p q) ≡ front ++ words_to_come q (p % q)
  pub counted : count_of (form_of p q) ≡ count + length (to_come q (p % q))
  pub some : 1 ≤ length front

from_one : (a : ℕ) (l : List ℕ) → 1 ≤ a
    → (written words1983 (a ∷ l) ≡ true ∷ (word_of a ++ turn (spelled words1983 l))) × (count_of (a ∷ l) ≡ 1 + length l)
from_one zero l h = absurd (omega arith)
from_one (suc a) l h = (refl, sym (one-add (length l)))

-- what is written has room, and so has each front of it
front-fits : {p q : ℕ} → 1 ≤ q → p < 2 ^ 32 → q < 2 ^ 32 → (front rest : Bits)
    → written words1983 (form_of p q) ≡ front ++ rest → length front + length rest ≤ 96
front-fits {p} {q} positive high low front rest e =
    omega (
      arith,
      written_size words1983 p q positive (omega arith) (omega arith),
      ap length e,
      length-append front rest,
    )

module _ (p : ℕ) {q : ℕ} (positive : 1 ≤ q) where
  form : form_of p q ≡ p / q ∷ to_come q (p % q)
  form =
      alternate-form p q positive
      ∙ alternate-word p q (p / q) (p % q) (sym (div-add-mod' p q)) (mod-lt p positive)

  -- below 1 the key begins with 0
  pub begun-below : p / q ≡ 0 → Begun p q (false ∷ []) 0
  begun-below e =
      let zero-first : form_of p q ≡ 0 ∷ to_come q (p % q) = rw e at form in
      record {
        whole = ap (written words1983) zero-first;
        counted = ap count_of zero-first ∙ omega arith;
        some = lit≤ tt;
      }

  module _ (above : 1 ≤ p / q) where
    whole : written words1983 (form_of p q) ≡ true ∷ (word_of (p / q) ++ words_to_come q (p % q))
    whole = ap (written words1983) form ∙ (from_one (p / q) (to_come q (p % q)) above).0

    -- from 1 on with 1 and the word of the whole part, for which there is room
    pub begun-from : Begun p q (true ∷ word_of (p / q)) 1
    begun-from = record {
      whole = whole;
      counted = ap count_of form ∙ (from_one (p / q) (to_come q (p % q)) above).1;
      some = omega arith;
    }

    pub whole-fits : p < 2 ^ 32 → q < 2 ^ 32 → 1 + length (word_of (p / q)) ≤ 96
    whole-fits high low =
        omega (arith, front-fits positive high low (true ∷ word_of (p / q)) (words_to_come q (p % q)) whole)

module _ {p q : ℕ} {front : Bits} {count : ℕ} (positive : 1 ≤ q) (b : Begun p q front count) where
  pub begun-room : p < 2 ^ 32 → q < 2 ^ 32 → Room q (p % q) front count
  begun-room high low = record {
    turned = mod-lt p positive;
    range = low;
    some = b.some;
    room = front-fits positive high low front (words_to_come q (p % q)) b.whole;
    few = omega (arith, b.counted, count_size words1983 p q positive (omega arith) (omega arith));
  }

  pub begun-answer : {result : Spelled}
      → result ≡ spelt (front ++ words_to_come q (p % q)) (count + length (to_come q (p % q))) (gcd q (p % q))
      → ◌≡◌ {A = Result Spelled Refusal} (Ok result) (spelling p q)
  unfolding spelling key_of
  begun-answer e =
      let string = written words1983 (form_of p q) in
      let same : block_of string ≡ block_of (closed string) =
      sym (block-same (closed string) string (closed-same string)) in
      let divisor : gcd q (p % q) ≡ gcd p q =
      sym (gcd-step p q (p / q) (p % q) (sym (div-add-mod' p q)) (mod-lt p positive)) in
      rw (e, ← b.whole, ← b.counted, divisor, same, ne_eqb q 0 (λ z. omega arith)) refl
