-- Two 1983 words that agree in their first bits: both are still in their run; or the runs are of one length, and the
-- digits agree as far as they are met; or the words are one.
use Rattle.std.specs.Prelude.{◌≡◌, refl, Bool, true, false, [], ◌∷◌, ◌++◌, ℕ, zero, suc, ◌+◌, ◌*◌, ◌-◌, ◌^◌, ◌≤◌, ◌<◌, length, replicate, take, drop}
use Rattle.std.proofs.Common.{sym, ◌∙◌, ap, true≢false, suc-le-suc, zero-le, mul-le-mul_right, arith, pow-add, length-drop, take-append-drop, length-take-le}
use Rattle.std.proofs.lemmas.Bool.{false≢true}
use Rattle.std.proofs.Math.Nat.{suc_inj}
use Rattle.bits.specs.Strings.{Bits, Agree}
use Rattle.bits.specs.Binary.{number_from, number_of}
use Rattle.bits.proofs.Numbers.{number_from_lem, number-append, number-lt}
use Rattle.families.proofs.Digits.{number_low}

-- all ones, and a run that stops
pub ones-meet : (k r : ℕ) (x : Bits) → Agree true k [] (replicate r true ++ (false ∷ x)) → k ≤ r
ones-meet zero r x e = zero-le
ones-meet (suc k) zero x e = absurd (true≢false (e 0 (omega arith)))
ones-meet (suc k) (suc r) x e = suc-le-suc (ones-meet k r x (λ i h. e (suc i) (suc-le-suc h)))

-- two runs, of r and s ones, that stop, and then x and y, agree in k bits: inside both runs; or past both, by j bits
pub data RunsMeet (z : Bool) (k r s : ℕ) (x y : Bits) : Type 0 where
  inside : k ≤ r → k ≤ s → RunsMeet z k r s x y
  past : r ≡ s → (j : ℕ) → k ≡ suc r + j → Agree z j x y → RunsMeet z k r s x y

pub runs_meet : (z : Bool) (k r s : ℕ) (x y : Bits)
    → Agree z k (replicate r true ++ (false ∷ x)) (replicate s true ++ (false ∷ y)) → RunsMeet z k r s x y
runs_meet z zero r s x y e = inside zero-le zero-le
runs_meet z (suc k) zero zero x y e = past refl k (omega arith) (λ i h. e (suc i) (suc-le-suc h))
runs_meet z (suc k) zero (suc s) x y e = absurd (false≢true (e 0 (omega arith)))
runs_meet z (suc k) (suc r) zero x y e = absurd (true≢false (e 0 (omega arith)))
runs_meet z (suc k) (suc r) (suc s) x y e = longer (runs_meet z k r s x y (λ i h. e (suc i) (suc-le-suc h)))
  where
    longer : RunsMeet z k r s x y → RunsMeet z (suc k) (suc r) (suc s) x y
    longer (inside h l) = inside (suc-le-suc h) (suc-le-suc l)
    longer (past q j h a) = past (ap suc q) j (omega arith) a

-- digits s and t, of one count, and then x and y, agree in j bits: in the first j digits; or past them, by i bits
pub data DigitsMeet (z : Bool) (j : ℕ) (s t x y : Bits) : Type 0 where
  inside : j ≤ length s → take j s ≡ take j t → DigitsMeet z j s t x y
  past : s ≡ t → (i : ℕ) → j ≡ length s + i → Agree z i x y → DigitsMeet z j s t x y

pub digits_meet : (z : Bool) (j : ℕ) (s t x y : Bits) → length s ≡ length t → Agree z j (s ++ x) (t ++ y)
    → DigitsMeet z j s t x y
digits_meet z zero s t x y h e = inside zero-le refl
digits_meet z (suc j) [] [] x y h e = past refl (suc j) (omega arith) e
digits_meet z (suc j) [] (c ∷ t) x y h e = absurd (omega arith)
digits_meet z (suc j) (b ∷ s) [] x y h e = absurd (omega arith)
digits_meet z (suc j) (b ∷ s) (c ∷ t) x y h e =
    longer (e 0 (omega arith)) (digits_meet z j s t x y (suc_inj h) (λ i l. e (suc i) (suc-le-suc l)))
  where
    longer : b ≡ c → DigitsMeet z j s t x y → DigitsMeet z (suc j) (b ∷ s) (c ∷ t) x y
    longer q (inside l p) = inside (suc-le-suc l) (λ i. q i ∷ p i)
    longer q (past p i l a) = past (λ k. q k ∷ p k) i (omega arith) a

-- numbers whose first j digits after the leading one are given lie in one block of H
pub record Block (A H r a : ℕ) : Type 0 where
  pub first : 2 ^ r ≤ A
  pub low : A ≤ a
  pub high : a < A + H

pub block : (j : ℕ) (t : Bits) → j ≤ length t
    → Block (number_from 1 (take j t) * 2 ^ (length t - j)) (2 ^ (length t - j)) (length t) (number_from 1 t)
block j t h = record {
  first = omega (arith, mul-le-mul_right (2 ^ (length t - j)) low, width);
  low = omega (arith, whole);
  high = omega (arith, whole, rw length-drop at (number-lt (drop j t)));
}
  where
    low : 2 ^ j ≤ number_from 1 (take j t)
    low = rw (length-take-le j t h) at (number_low (take j t))

    width : 2 ^ length t ≡ 2 ^ j * 2 ^ (length t - j)
    width = ap {B = ℕ} (λ n. 2 ^ n) {x = length t} {y = j + (length t - j)} (omega arith) ∙ pow-add 2 j (length t - j)

    whole : number_from 1 t ≡ number_from 1 (take j t) * 2 ^ (length t - j) + number_of (drop j t)
    whole = ap (number_from 1) (sym (take-append-drop j t)) ∙ number-append 1 (take j t) (drop j t)
        ∙ (rw length-drop at (number_from_lem (number_from 1 (take j t)) (drop j t)))
