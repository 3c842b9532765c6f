-- The digits after the leading one: read on from 1 they give the number back, and each string is such digits.
use Rattle.std.specs.Prelude.{◌≡◌, refl, Bool, true, false, cond, ◌⊎◌, [], ◌∷◌, ◌++◌, ℕ, zero, suc, ◌+◌, ◌*◌, ◌^◌, ◌/◌, ◌%◌, ◌≤◌, ◌<◌, ltb, eqb, length}
use Rattle.std.proofs.Common.{sym, ap, inl, inr, pow-suc, arith, ltb-true, ltb-false, eqb-true, pow_mono}
use Rattle.std.proofs.Math.Nat.{suc_inj}
use Rattle.std.proofs.Math.Decide.{dec_lt}
use Rattle.std.proofs.lemmas.Bool.{eqb-false}
use Rattle.bits.specs.Strings.{Bits}
use Rattle.bits.specs.Binary.{digit_of, number_from}
use Rattle.bits.proofs.Numbers.{number_from_lem, number-append, number-lt}
use Rattle.families.specs.Families.{Below, here, there}
use Rattle.families.specs.Words.{digits_from, digits_after_one}

last_digit : (i : ℕ) → 2 * (i / 2) + digit_of (eqb (i % 2) 1) ≡ i
last_digit i = by_test (eqb (i % 2) 1) refl
  where
    by_test : (b : Bool) → eqb (i % 2) 1 ≡ b → 2 * (i / 2) + digit_of b ≡ i
    by_test true e = omega (arith, eqb-true (i % 2) 1 e)
    by_test false e = let n : i % 2 ≡ 1 → ⊥ = eqb-false (i % 2) 1 e in omega arith

number-digits_from : (f i : ℕ) → 1 ≤ i → i ≤ f → number_from 1 (digits_from f i) ≡ i
unfolding digits_from
number-digits_from zero i h l = omega arith
number-digits_from (suc f) i h l = by_test (ltb i 2) refl (number-digits_from f (i / 2))
  where
    by_test : (b : Bool) → ltb i 2 ≡ b → (1 ≤ i / 2 → i / 2 ≤ f → number_from 1 (digits_from f (i / 2)) ≡ i / 2)
        → number_from 1 (cond b [] (digits_from f (i / 2) ++ (eqb (i % 2) 1 ∷ []))) ≡ i
    by_test true e again = omega (arith, ltb-true i 2 e)
    by_test false e again =
        let k : 2 ≤ i = ltb-false i 2 e in rw (number-append, again (omega arith) (omega arith)) (last_digit i)

pub number-digits : (i : ℕ) → 1 ≤ i → number_from 1 (digits_after_one i) ≡ i
unfolding digits_after_one
number-digits i h = number-digits_from i i h (omega arith)

-- digits read on from 1 lie from a power of two up to the next
pub number_low : (s : Bits) → 2 ^ length s ≤ number_from 1 s
number_low s = omega (arith, number_from_lem 1 s)

pub number_high : (s : Bits) → number_from 1 s < 2 ^ suc (length s)
number_high s = omega (arith, number_from_lem 1 s, number-lt s, pow-suc 2 (length s))

-- strings of one length stand as their numbers do
below-number : (v : ℕ) {s t : Bits} → Below s t → length s ≡ length t → number_from v s < number_from v t
below-number v (here {s = s} {t = t}) e =
    omega (
      arith,
      number_from_lem (2 * v + 0) s,
      number-lt s,
      number_from_lem (2 * v + 1) t,
      ap (λ (n : ℕ). (2 * v + 1) * 2 ^ n) (suc_inj e),
      ap (λ (n : ℕ). 2 ^ n) (suc_inj e),
    )
below-number v (there b h) e = below-number (2 * v + digit_of b) h (suc_inj e)

abbrev Compared : Bits → Bits → Type 0
Compared s t = Below s t ⊎ ((s ≡ t) ⊎ Below t s)

compared : (s t : Bits) → length s ≡ length t → Compared s t
compared [] [] e = inr (inl refl)
compared [] (c ∷ t) e = absurd (omega arith)
compared (b ∷ s) [] e = absurd (omega arith)
compared (b ∷ s) (c ∷ t) e = by_bits b c (compared s t (suc_inj e))
  where
    with_same : (b : Bool) → Compared s t → Compared (b ∷ s) (b ∷ t)
    with_same b (inl h) = inl (there b h)
    with_same b (inr (inl h)) = inr (inl (ap {B = Bits} (λ r. b ∷ r) h))
    with_same b (inr (inr h)) = inr (inr (there b h))

    by_bits : (b c : Bool) → Compared s t → Compared (b ∷ s) (c ∷ t)
    by_bits true true h = with_same true h
    by_bits true false h = inr (inr here)
    by_bits false true h = inl here
    by_bits false false h = with_same false h

pub number-below : (s t : Bits) → length s ≡ length t → number_from 1 s < number_from 1 t → Below s t
number-below s t e h = by_order (compared s t e)
  where
    by_order : Compared s t → Below s t
    by_order (inl b) = b
    by_order (inr (inl q)) = absurd (omega (arith, ap (number_from 1) q))
    by_order (inr (inr b)) = absurd (omega (arith, below-number 1 b (sym e)))

number-length : (s t : Bits) → number_from 1 s ≡ number_from 1 t → length s ≤ length t
number-length s t e = by_size (dec_lt (length t) (length s))
  where
    by_size : Dec (length t < length s) → length s ≤ length t
    by_size (yes l) = absurd (omega (arith, number_low s, number_high t, pow_mono l))
    by_size (no n) = omega arith

number_injective : (s t : Bits) → number_from 1 s ≡ number_from 1 t → s ≡ t
number_injective s t e = by_order (compared s t size)
  where
    size : length s ≡ length t
    size = omega (arith, number-length s t e, number-length t s (sym e))

    by_order : Compared s t → s ≡ t
    by_order (inl b) = absurd (omega (arith, below-number 1 b size))
    by_order (inr (inl q)) = q
    by_order (inr (inr b)) = absurd (omega (arith, below-number 1 b (sym size)))

-- each string is the digits after the leading one of the number that it gives, read on from 1
pub digits-number : (s : Bits) → digits_after_one (number_from 1 s) ≡ s
digits-number s = number_injective (digits_after_one (number_from 1 s)) s (number-digits (number_from 1 s) positive)
  where
    positive : 1 ≤ number_from 1 s
    positive = omega (arith, number_low s, pow_mono {i = 0} {j = length s} (omega arith))
