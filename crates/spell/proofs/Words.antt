-- The word and the turned word of a number, by its highest binary digit 2^k: how long they are, and their numbers.
use Rattle.std.specs.Prelude.{◌≡◌, ℕ, suc, ◌+◌, ◌*◌, ◌-◌, ◌%◌, ◌^◌, ◌≤◌, ◌<◌, length}
use Rattle.std.proofs.Common.{◌∙◌, ap, sub-one, mod-eq_of_lt, arith, pow-add, pow-suc, pow_mono, pow_pos}
use Rattle.std.proofs.lemmas.List.{length-map}
use Rattle.bits.specs.Strings.{turn}
use Rattle.bits.specs.Binary.{number_of, digits_in}
use Rattle.bits.proofs.Numbers.{number-turn}
use Rattle.bits.proofs.Pieces.{digits-of-number}
use Rattle.families.specs.Words.{word_of}
use Rattle.families.proofs.Measured.{word-length, word-number}

module _ {k a : ℕ} (low : 2 ^ k ≤ a) (high : a < 2 * 2 ^ k) (few : k < 32) where
  digits : a < 2 ^ suc k
  digits = omega (arith, pow-suc 2 k)

  length_now : 2 * suc k - 1 ≡ 2 * k + 1
  length_now = omega arith

  pub size : length (word_of a) ≡ 2 * k + 1
  size = word-length (suc k) a (rw sub-one low) digits ∙ length_now

  number : number_of (word_of a) ≡ a + 2 ^ (2 * k + 1) - 3 * 2 ^ k
  number = rw (length_now, sub-one) at (word-number (suc k) a (rw sub-one low) digits)

  doubled : 2 * 2 ^ k ≤ 2 ^ (2 * k + 1)
  doubled = omega (arith, pow-suc 2 k, pow_mono {i = suc k} {j = 2 * k + 1} (omega arith))

  turned_number : number_of (turn (word_of a)) ≡ 3 * 2 ^ k - 1 - a
  turned_number = omega (arith, number, number-turn (word_of a), ap (λ (n : ℕ). 2 ^ n) size, doubled)

  -- what the code shifts stays within its machine word
  shift_small : 2 ^ k ≤ 2 ^ 31
  shift_small = pow_mono {i = k} {j = 31} (omega arith)

  pub top : (1 * 2 ^ k) % 2 ^ 64 ≡ 2 ^ k
  top = omega (arith, mod-eq_of_lt {n = 1 * 2 ^ k} {m = 2 ^ 64} (omega (arith, shift_small)))

  three_shifted : (3 * 2 ^ k) % 2 ^ 64 ≡ 3 * 2 ^ k
  three_shifted = mod-eq_of_lt (omega (arith, shift_small))

  square : 2 ^ (2 * k + 1) ≡ 2 * (2 ^ k * 2 ^ k)
  square =
      ap (λ (n : ℕ). 2 ^ n) (omega arith) ∙ pow-suc 2 (k + k) ∙ ap (λ (x : ℕ). x * 2) (pow-add 2 k k) ∙ omega arith

  ones_and_top : (2 ^ k - 1) * 2 ^ k + 2 ^ k ≡ 2 ^ k * 2 ^ k
  ones_and_top =
      let whole : 2 ^ k - 1 + 1 ≡ 2 ^ k = omega (arith, pow_pos k) in
      omega (arith, ap (λ (x : ℕ). x * 2 ^ k) whole)

  ones_small : 2 * ((2 ^ k - 1) * 2 ^ k) < 2 ^ 63
  ones_small = omega (arith, ones_and_top, square, pow_pos k, pow_mono {i = 2 * k + 1} {j = 63} (omega arith))

  pub ones_shifted : (((1 * 2 ^ k) % 2 ^ 64 - 1) * 2 ^ k) % 2 ^ 64 ≡ (2 ^ k - 1) * 2 ^ k
  ones_shifted = rw top (mod-eq_of_lt (omega (arith, ones_small)))

  pub word_fits : 2 * ((((1 * 2 ^ k) % 2 ^ 64 - 1) * 2 ^ k) % 2 ^ 64) + (a - (1 * 2 ^ k) % 2 ^ 64) < 2 ^ (2 * k + 1)
  word_fits = rw (ones_shifted, top) (omega (arith, ones_and_top, square))

  word_number : 2 * ((2 ^ k - 1) * 2 ^ k) + (a - 2 ^ k) ≡ number_of (word_of a)
  word_number = omega (arith, number, ones_and_top, square)

  pub word_made : digits_in (2 * k + 1)
      (2 * ((((1 * 2 ^ k) % 2 ^ 64 - 1) * 2 ^ k) % 2 ^ 64) + (a - (1 * 2 ^ k) % 2 ^ 64)) ≡ word_of a
  word_made = rw (ones_shifted, top, word_number) (rw size at (digits-of-number (word_of a)))

  pub turned_within : (3 * 2 ^ k) % 2 ^ 64 - 1 - a < 2 ^ (2 * k + 1)
  turned_within = omega (arith, three_shifted, doubled)

  pub turned_made : digits_in (2 * k + 1) ((3 * 2 ^ k) % 2 ^ 64 - 1 - a) ≡ turn (word_of a)
  turned_made =
      rw three_shifted (rw (length-map, size, turned_number) at (digits-of-number (turn (word_of a))))
