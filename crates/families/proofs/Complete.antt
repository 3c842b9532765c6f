-- The 1983 words are complete: what begins an infinite string with a 0 in it is a run, its zero, and digits.
use Rattle.std.specs.Prelude.{◌≡◌, refl, Bool, true, false, [], ◌∷◌, ◌++◌, ℕ, zero, suc, ◌≤◌, length, replicate, drop}
use Rattle.std.proofs.Common.{◌∙◌, true≢false, append_assoc, arith, pow_pos}
use Rattle.bits.specs.Strings.{Bits, Same}
use Rattle.bits.specs.Binary.{first_bits, number_from}
use Rattle.bits.proofs.Order.{same-append}
use Rattle.bits.proofs.Pieces.{same-first, length-first}
use Rattle.families.specs.Families.{ended}
use Rattle.families.specs.Words.{run_of, word_of, first_number}
use Rattle.families.proofs.Digits.{number_low, digits-number}

-- what follows the run and its zero
abbrev after_run : Bits → Bits
after_run s = drop (suc (run_of s)) s

same-run : (z : Bool) (s : Bits) → ended z s ≡ false → Same z s (replicate (run_of s) true ++ (false ∷ after_run s))
same-run true [] h i = absurd (true≢false h)
same-run false [] h zero = refl
same-run false [] h (suc i) = refl
same-run z (true ∷ s) h i =
    same-append z (true ∷ []) s (replicate (run_of s) true ++ (false ∷ after_run s)) (same-run z s h) i
same-run z (false ∷ s) h i = refl

pub word_complete : (z : Bool) (s : Bits) → ended z s ≡ false
    → (1 ≤ first_number z s) × ((rest : Bits) × Same z s (word_of (first_number z s) ++ rest))
unfolding word_of first_number
word_complete z s h = (omega (arith, number_low digits, pow_pos (length digits)), (drop r after, begins))
  where
    r : ℕ
    r = run_of s

    after : Bits
    after = after_run s

    digits : Bits
    digits = first_bits z r after

    spelled : Same z (replicate r true ++ (false ∷ after)) (replicate r true ++ (false ∷ (digits ++ drop r after)))
    spelled =
        same-append z (replicate r true) (false ∷ after) (false ∷ (digits ++ drop r after))
        (same-append z (false ∷ []) after (digits ++ drop r after) (same-first z r after))

    begins : Same z s (word_of (number_from 1 digits) ++ drop r after)
    begins = rw (digits-number, length-first, append_assoc) (λ i. same-run z s h i ∙ spelled i)
