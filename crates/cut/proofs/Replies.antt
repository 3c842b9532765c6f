-- What cutting answers, by what judging, counting and copying gave.
use Rattle.std.specs.Prelude.{◌≡◌, ◌⊎◌, List, [], ◌∷◌, ℕ, ◌≤◌, ◌<◌, length, take, Result, Ok, Err}
use Rattle.std.specs.Result.{IsErrAnd}
use Rattle.std.proofs.Common.{sym, ◌∙◌, ap, arith, lt-ltb, le-ltb, length-take, take-take}
use Rattle.std.proofs.lemmas.List.{length-map}
use Rattle.bits.specs.Strings.{Bits}
use Rattle.bits.specs.Texts.{char_of, text_of, bits_of_text, in_front}
use Rattle.bits.proofs.Trim.{closed-length, closed-take}
use Rattle.bits.proofs.Pieces.{take-map}
use Rattle.keys.specs.Keys.{cut_to}
use Rattle.outcomes.specs.Outcomes.{Refusal, leaves, gives, refuses, called}
use Rattle.outcomes.specs.Refusals.{short_buffer, outside}
use Rattle.outcomes.proofs.TextKeys.{clear-canonical}
use Rattle.outcomes.specs.Cutting.{cut_text}
use Rattle.outcomes.proofs.Cuts.{inside, beyond}
use Rattle.refusals.specs.declared.Refusal as reasons
use Rattle.refusals.specs.Answers.{answered, one_as}
use Rattle.scan.proofs.Callers.{told_on, told-key, judged-clear}
use Rattle.scan.specs.Judging.{judgement}
use Rattle.scan.specs.declared.Fault.{Fault}

-- no more characters are kept than are asked for, nor than there are
pub cut_size : (k : List ℕ) (n : ℕ) → let r = length (cut_to n (bits_of_text k)) in (r ≤ n) × (r ≤ length k)
cut_size k n =
    let s = bits_of_text k in
    let taken = rw (length-take n s, length-map) at (closed-length (take n s)) in
    (omega (arith, taken), omega (arith, taken))

module _ (k : List ℕ) (n : ℕ) (m : List ℕ) where
  abbrev key : Bits
  key = cut_to n (bits_of_text k)

  abbrev after : List ℕ
  after = in_front (text_of key) m

  abbrev more : List Refusal
  more = outside 96 n ∷ short_buffer 96 m ∷ []

  pub cut_faulty : (r : Result ℕ reasons.Refusal) (f : Fault) → Err f ≡ judgement k → IsErrAnd r (λ d. d ≡ f.refusal)
      → leaves (answered 1 one_as r) m ≡ cut_text k n m
  unfolding cut_text
  cut_faulty = told_on k more (length key ∷ []) m after one_as

  module _ (e : Ok tt ≡ judgement k) where
    judged : (length k ≤ 96) × (called more (length key ∷ []) m after ≡ cut_text k n m)
    unfolding cut_text
    judged = told-key k more (length key ∷ []) m after e

    -- what is kept are the first characters of the text
    text : text_of key ≡ take (length key) k
    text =
        let s = bits_of_text k in
        let whole : text_of s ≡ k = (clear-canonical k (judged-clear k e)).1.1 in
        ap text_of (closed-take (take n s) ∙ take-take (length key) n s (cut_size k n).0)
        ∙ sym (take-map char_of (length key) s)
        ∙ ap (take (length key)) whole

    pub cut-outside : (n ≡ 0) ⊎ (96 < n) → refuses 8 1 m ≡ cut_text k n m
    cut-outside h = rw (beyond 96 n h) at judged.1

    module _ (some : 1 ≤ n) (fits : n ≤ 96) where
      within : called (short_buffer 96 m ∷ []) (length key ∷ []) m after ≡ cut_text k n m
      within = rw (inside 96 n some fits) at judged.1

      pub cut_short : length m < 96 → refuses 2 1 m ≡ cut_text k n m
      cut_short l = rw (lt-ltb (length m) 96 l) at within

      pub cut-key : 96 ≤ length m → (r : ℕ) (l : List ℕ) → r ≡ length key → l ≡ in_front (take r k) m
          → gives (r ∷ []) l ≡ cut_text k n m
      cut-key h r l c f = rw (f, c, ← text) (rw (le-ltb (length m) 96 h) at within)

-- what the proof of `cut` is found by
pub ruleset replies = (cut_size, cut_faulty, cut-outside, cut_short, cut-key)
