-- The length of a 1983 word, and the word as a binary number, which the code makes it by.
use Rattle.std.specs.Prelude.{◌≡◌, true, ℕ, zero, suc, ◌+◌, ◌*◌, ◌-◌, ◌^◌, ◌≤◌, ◌<◌, length, replicate}
use Rattle.std.proofs.Common.{◌∙◌, ap, pow-suc, mul-le-mul, sub-one, arith, pow-add, pow_mono, pow_pos, length-append}
use Rattle.std.proofs.Math.Decide.{dec_lt}
use Rattle.std.proofs.lemmas.List.{length-replicate}
use Rattle.bits.specs.Strings.{Bits, turn}
use Rattle.bits.specs.Binary.{number_from, number_of}
use Rattle.bits.proofs.Numbers.{number_from_lem, number-append, number-ones, number-turn}
use Rattle.families.specs.Words.{digits_after_one, with_run, word_of}
use Rattle.families.proofs.Digits.{number-digits, number_low, number_high}

two-pow_odd : (r : ℕ) → 2 ^ (2 * r + 1) ≡ 2 * (2 ^ r * 2 ^ r)
two-pow_odd r =
    ap (λ (n : ℕ). 2 ^ n) (omega arith) ∙ pow-suc 2 (r + r) ∙ ap (λ (x : ℕ). x * 2) (pow-add 2 r r) ∙ omega arith

-- how many digits follow the leading one
pub digits_low : (i : ℕ) → 1 ≤ i → 2 ^ length (digits_after_one i) ≤ i
digits_low i h = omega (arith, number_low (digits_after_one i), number-digits i h)

run-length : (s : Bits) → length (with_run s) ≡ 2 * length s + 1
run-length s = simp (length-append, length-replicate) (omega arith)

pub word_short : (i : ℕ) → 1 ≤ i → 2 ^ length (word_of i) ≤ 2 * (i * i)
unfolding word_of
word_short i h =
    rw (run-length, two-pow_odd) (omega (arith, mul-le-mul (digits_low i h) (digits_low i h)))

-- the number of a run, its zero and digits
run-number : (s : Bits) → number_of (with_run s) + 3 * 2 ^ length s ≡ number_from 1 s + 2 ^ (2 * length s + 1)
run-number s =
    rw (two-pow_odd, number-append)
    (omega (
      arith,
      number-ones (length s),
      number_from_lem (2 * number_of (replicate (length s) true) + 0) s,
      number_from_lem 1 s,
      ap (λ (x : ℕ). x * 2 ^ length s) (number-ones (length s)),
    ))

digits_count : (r i : ℕ) → 2 ^ r ≤ i → i < 2 ^ suc r → length (digits_after_one i) ≡ r
digits_count r i low high = by_size (dec_lt n r) (dec_lt r n)
  where
    n : ℕ
    n = length (digits_after_one i)

    positive : 1 ≤ i
    positive = omega (arith, pow_pos r)

    by_size : Dec (n < r) → Dec (r < n) → n ≡ r
    by_size (yes l) d = absurd (omega (arith, number_high (digits_after_one i), number-digits i positive, pow_mono l))
    by_size (no m) (yes l) = absurd (omega (arith, number_low (digits_after_one i), number-digits i positive, pow_mono l))
    by_size (no m) (no l) = omega arith

-- the word of a number of k binary digits has 2k-1 bits
pub word-length : (k i : ℕ) → 2 ^ (k - 1) ≤ i → i < 2 ^ k → length (word_of i) ≡ 2 * k - 1
unfolding word_of
word-length zero i low high = absurd (omega arith)
word-length (suc r) i low high =
    omega (arith, run-length (digits_after_one i), digits_count r i (rw sub-one at low) high)

-- and is this number
pub word-number : (k i : ℕ) → 2 ^ (k - 1) ≤ i → i < 2 ^ k → number_of (word_of i) ≡ i + 2 ^ (2 * k - 1) - 3 * 2 ^ (k - 1)
unfolding word_of
word-number zero i low high = absurd (omega arith)
word-number (suc r) i low high =
    let n : length (digits_after_one i) ≡ r = digits_count r i (rw sub-one at low) high in
    omega (
      arith,
      run-number (digits_after_one i),
      number-digits i (omega (arith, pow_pos (suc r - 1))),
      ap {B = ℕ} (λ m. 2 ^ m) {x = suc r - 1} {y = length (digits_after_one i)} (omega arith),
      ap {B = ℕ} (λ m. 2 ^ m) {x = 2 * suc r - 1} {y = 2 * length (digits_after_one i) + 1} (omega arith),
    )

pub turned_word-number : (k i : ℕ) → 2 ^ (k - 1) ≤ i → i < 2 ^ k
    → number_of (turn (word_of i)) ≡ 2 ^ (2 * k - 1) - 1 - number_of (word_of i)
turned_word-number k i low high =
    omega (arith, number-turn (word_of i), ap (λ (n : ℕ). 2 ^ n) (word-length k i low high))
