-- When refusal 8 is due and when it isn't; and cutting a key without fault to a width that isn't outside, into a buffer
-- that is large enough.
use Rattle.std.specs.Prelude.{◌≡◌, Bool, true, false, ◌||◌, ◌⊎◌, List, [], ◌∷◌, ℕ, ◌≤◌, ◌<◌, eqb, ltb, length}
use Rattle.std.proofs.Common.{◌∙◌, ap, inl, inr, arith, lt-ltb, le-ltb, ne_eqb, eq-eqb}
use Rattle.std.proofs.Math.Bool.{or-true}
use Rattle.bits.specs.Texts.{text_of, bits_of_text, in_front}
use Rattle.keys.specs.Keys.{cut_to}
use Rattle.outcomes.specs.Outcomes.{gives}
use Rattle.outcomes.specs.Refusals.{key_refusals, outside, short_buffer}
use Rattle.outcomes.specs.Laws.{Clear}
use Rattle.outcomes.proofs.Laws.{clear-called}
use Rattle.outcomes.specs.Cutting.{cut_text}
use Rattle.outcomes.proofs.Buffers.{room}
use Rattle.outcomes.proofs.TextKeys.{judged-more}

-- a number from 1 to most
pub inside : (most n : ℕ) → 1 ≤ n → n ≤ most → (outside most n).1 ≡ false
inside most n h l = λ i. ne_eqb n 0 (λ e. omega arith) i || le-ltb most n l i

-- none, or more than most
pub beyond : (most n : ℕ) → (n ≡ 0) ⊎ (most < n) → (outside most n).1 ≡ true
beyond most n (inl z) = λ i. eq-eqb n 0 z i || ltb most n
beyond most n (inr l) = ap (λ (b : Bool). eqb n 0 || b) (lt-ltb most n l) ∙ or-true (eqb n 0)

pub text-cut : (k m : List ℕ) (n : ℕ) → Clear (key_refusals k []) → 1 ≤ n → n ≤ 96 → 96 ≤ length m
    → let c = cut_to n (bits_of_text k) in cut_text k n m ≡ gives (length c ∷ []) (in_front (text_of c) m)
unfolding cut_text
text-cut k m n clear some few h =
    let c = cut_to n (bits_of_text k) in
    clear-called (key_refusals k (outside 96 n ∷ short_buffer 96 m ∷ [])) (length c ∷ []) m (in_front (text_of c) m)
    (judged-more k (outside 96 n ∷ short_buffer 96 m ∷ []) clear (inside 96 n some few, room 96 m h))
