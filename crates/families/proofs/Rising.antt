-- The 1983 words are in rising order and prefix-free.
use Rattle.std.specs.Prelude.{◌≡◌, true, false, [], ◌∷◌, ◌++◌, ℕ, zero, suc, ◌≤◌, ◌<◌, length, replicate}
use Rattle.std.proofs.Common.{le_of_suc-le-suc, arith, pow_mono}
use Rattle.std.proofs.Math.Decide.{dec_lt}
use Rattle.bits.specs.Strings.{Bits}
use Rattle.bits.specs.Binary.{number_from}
use Rattle.families.specs.Families.{Below, here, there}
use Rattle.families.specs.Words.{digits_after_one, with_run, word_of}
use Rattle.families.proofs.Digits.{number-digits, number_low, number_high, number-below}

longer_run : (r k : ℕ) (s t : Bits) → r < k → Below (replicate r true ++ (false ∷ s)) (replicate k true ++ t)
longer_run r zero s t h = absurd (omega arith)
longer_run zero (suc k) s t h = here
longer_run (suc r) (suc k) s t h = there true (longer_run r k s t (le_of_suc-le-suc h))

below-append : (w : Bits) {s t : Bits} → Below s t → Below (w ++ s) (w ++ t)
below-append [] h = h
below-append (b ∷ w) h = there b (below-append w h)

run-rising : (s t : Bits) → number_from 1 s < number_from 1 t → Below (with_run s) (with_run t)
run-rising s t h = by_run (dec_lt (length s) (length t)) (dec_lt (length t) (length s))
  where
    by_run : Dec (length s < length t) → Dec (length t < length s) → Below (with_run s) (with_run t)
    by_run (yes l) d = longer_run (length s) (length t) s (false ∷ t) l
    by_run (no n) (yes l) = absurd (omega (arith, number_low s, number_high t, pow_mono l))
    by_run (no n) (no m) =
        let e : length s ≡ length t = omega arith in
        rw e (below-append (replicate (length t) true) (there false (number-below s t e h)))

pub word-rising : (i j : ℕ) → 1 ≤ i → i < j → Below (word_of i) (word_of j)
unfolding word_of
word-rising i j h l =
    run-rising (digits_after_one i) (digits_after_one j) (omega (arith, number-digits i h, number-digits j (omega arith)))
