-- A string that begins with a word: what its first 64 bits are as a number, and what is taken from it.
use Rattle.std.specs.Prelude.{◌≡◌, refl, Bool, true, false, ◌++◌, ◌∷◌, ℕ, suc, ◌+◌, ◌*◌, ◌-◌, ◌^◌, ◌≤◌, ◌<◌, length, replicate, Err}
use Rattle.std.proofs.Common.{sym, ◌∙◌, ap, append_assoc, pow-suc, sub-one, arith, pow-add, pow_mono, pow_pos}
use Rattle.std.proofs.Math.Decide.{dec_lt}
use Rattle.std.proofs.lemmas.List.{replicate-append-replicate}
use Rattle.std.proofs.Math.Seq.{drop-append_seam}
use Rattle.bits.specs.Strings.{Bits, Same}
use Rattle.bits.specs.Binary.{number_of, first_bits}
use Rattle.bits.proofs.Numbers.{number-ones}
use Rattle.bits.proofs.Pieces.{first-append, first-same}
use Rattle.bits.proofs.Sums.{first-lt, number-first}
use Rattle.families.specs.Families.{ended}
use Rattle.families.specs.Words.{digits_after_one, word_of, first_number}
use Rattle.families.proofs.Digits.{number-digits, number_high}
use Rattle.families.proofs.Measured.{digits_low, word-length, word-number}
use Rattle.families.proofs.Complete.{word_complete}
use Rattle.refusals.specs.declared.Refusal.TheVariants.{OutOfRange}
use Rattle.scan.specs.Taking.{took, taken_from}
use Rattle.scan.proofs.Taking.{taken_many, taken_few}
use Rattle.scan.specs.Runs.{Counted, number_read, Front, counted_many, run-counted, word-read}

-- the first bits of a string that begins with p, as a number
begun : (z : Bool) (s p t : Bits) (m n : ℕ) → length p + m ≡ n → Same z s (p ++ t)
    → number_of (first_bits z n s) ≡ number_of p * 2 ^ m + number_of (first_bits z m t)
begun z s p t m n e same =
    ap number_of (first-same z n s (p ++ t) same) ∙ ap (λ (x : ℕ). number_of (first_bits z x (p ++ t))) (sym e)
    ∙ rw (first-append, drop-append_seam) at (number-first z (length p) m (p ++ t))

-- with 32 ones in front
ones-number : (z : Bool) (s t : Bits) (k : ℕ) → 32 ≤ k → Same z s (replicate k true ++ t)
    → 2 ^ 64 ≤ number_of (first_bits z 64 s) + 2 ^ 32
ones-number z s t k h same = omega (arith, begun z s (replicate 32 true) more 32 64 refl front, number-ones 32)
  where
    more : Bits
    more = replicate (k - 32) true ++ t

    whole : k ≡ 32 + (k - 32)
    whole = omega arith

    split : replicate k true ++ t ≡ replicate 32 true ++ more
    split =
        ap (λ (n : ℕ). replicate n true ++ t) whole
        ∙ ap (λ (x : Bits). x ++ t) (sym (replicate-append-replicate 32 (k - 32) true))
        ∙ append_assoc (replicate 32 true) (replicate (k - 32) true) t

    front : Same z s (replicate 32 true ++ more)
    front = rw split at same

word-ones : (z : Bool) (s rest : Bits) (a : ℕ) → Same z s (word_of a ++ rest) → 32 ≤ length (digits_after_one a)
    → 2 ^ 64 ≤ number_of (first_bits z 64 s) + 2 ^ 32
unfolding word_of
word-ones z s rest a same h =
    ones-number z s (false ∷ (digits_after_one a ++ rest)) (length (digits_after_one a)) h (rw append_assoc at same)

-- a word of k digits after the leading one, where it fits the 64 bits
word-front : (z : Bool) (s t : Bits) (k a : ℕ) → k < 32 → 2 ^ k ≤ a → a < 2 ^ suc k → Same z s (word_of a ++ t)
    → Front (2 ^ k) (2 ^ (63 - 2 * k)) (2 ^ 63) (2 ^ 64) a (number_of (first_bits z (63 - 2 * k) t))
    (number_of (first_bits z 64 s))
word-front z s t k a h low high same = record {
  half = rw (← pow-add 2 k k, ← pow-add 2 (k + k) f) (ap (λ (n : ℕ). 2 ^ n) places);
  whole = refl;
  made = omega (arith, front, ap (λ (x : ℕ). x * 2 ^ f) number, powers);
  low = low;
  high = omega (arith, high, pow-suc 2 k);
  small = first-lt z f t;
  some = pow_pos k;
}
  where
    f : ℕ
    f = 63 - 2 * k

    places : k + k + f ≡ 63
    places = omega arith

    low_again : 2 ^ (suc k - 1) ≤ a
    low_again = rw sub-one low

    front : number_of (first_bits z 64 s) ≡ number_of (word_of a) * 2 ^ f + number_of (first_bits z f t)
    front = begun z s (word_of a) t f 64 (omega (arith, word-length (suc k) a low_again high)) same

    number : number_of (word_of a) + 3 * 2 ^ k ≡ a + 2 ^ (2 * k + 1)
    number =
        omega (
          arith,
          word-number (suc k) a low_again high,
          ap {B = ℕ} (λ n. 2 ^ n) {x = suc k - 1} {y = k} (omega arith),
          ap {B = ℕ} (λ n. 2 ^ n) {x = 2 * suc k - 1} {y = 2 * k + 1} (omega arith),
          pow-suc 2 k,
          pow_mono {i = suc k} {j = 2 * k + 1} (omega arith),
        )

    powers : 2 ^ (2 * k + 1) * 2 ^ f ≡ 2 ^ 64
    powers = let e : 2 * k + 1 + f ≡ 64 = omega arith in sym (pow-add 2 (2 * k + 1) f) ∙ ap (λ (n : ℕ). 2 ^ n) e

-- the run that is counted of the first 64 bits of a string that isn't ended says what is taken from it
module _ (z : Bool) (s : Bits) {w r : ℕ} (h : ended z s ≡ false) (e : number_of (first_bits z 64 s) ≡ w)
    (c : Counted w r) where
  abbrev a : ℕ
  a = first_number z s

  -- how many digits follow the leading one
  abbrev k : ℕ
  k = length (digits_after_one a)

  low : 2 ^ k ≤ a
  low = digits_low a (word_complete z s h).0

  high : a < 2 ^ suc k
  high = omega (arith, number_high (digits_after_one a), number-digits a (word_complete z s h).0)

  abbrev rest : Bits
  rest = (word_complete z s h).1.0

  same : Same z s (word_of a ++ rest)
  same = (word_complete z s h).1.1

  -- the bits that follow the word, as a number
  abbrev behind : ℕ
  behind = number_of (first_bits z (63 - 2 * k) rest)

  front : k < 32 → Front (2 ^ k) (2 ^ (63 - 2 * k)) (2 ^ 63) (2 ^ 64) a behind w
  front l = rw e at (word-front z s rest k a l low high same)

  run_few : k < 32 → r ≡ k
  run_few l = run-counted k l (front l) c

  run_many : 32 ≤ k → r ≡ 32
  run_many l = counted_many c (rw e at (word-ones z s rest a same l))

  pub taken_long : 31 < r → Err OutOfRange ≡ taken_from z s
  taken_long l = by_size (dec_lt k 32)
    where
      by_size : Dec (k < 32) → Err OutOfRange ≡ taken_from z s
      by_size (yes m) = absurd (omega (arith, run_few m))
      by_size (no m) = taken_many z s h k low (omega arith)

  pub taken-word : r < 32 → took (number_read w r) (2 * r + 1) ≡ taken_from z s
  taken-word l = by_size (dec_lt k 32)
    where
      by_size : Dec (k < 32) → took (number_read w r) (2 * r + 1) ≡ taken_from z s
      by_size (yes m) =
          let v : number_read w r ≡ a = rw (run_few m) (word-read k m (front m)) in
          let n : 2 * r + 1 ≡ 2 * k + 1 = omega (arith, run_few m) in
          (λ i. took (v i) (n i)) ∙ taken_few z s h k low high m
      by_size (no m) = absurd (omega (arith, run_many (omega arith)))
