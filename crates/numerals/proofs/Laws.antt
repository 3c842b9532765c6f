-- The numeral of n is one digit, or n's last digit behind the numeral of n / 10. So its value is n, it has digits only,
-- no zero in front, and as many digits as the powers of ten tell.
use Rattle.std.specs.Prelude.{◌≡◌, refl, true, cond, ◌&&◌, ℕ, zero, suc, ◌+◌, ◌/◌, ◌%◌, ◌^◌, ◌≤◌, ◌<◌, eqb, length, get_or}
use Rattle.std.proofs.Common.{sym, ap, add-one, arith, length-append, le-leb, ne_eqb}
use Rattle.std.proofs.Math.Bool.{and_assoc}
use mathlib.Core.List.{List, [], ◌∷◌, ◌++◌, foldl-append}
use Rattle.std.proofs.Math.Nat.{one-le-pow}
use Rattle.std.proofs.Math.Decide.{dec_lt}
use Rattle.numerals.specs.Numerals.{is_digit, all_digits, value_of, last_behind, digits_from, decimal_of}

-- enough steps give the same
digits_enough : (j k n : ℕ) → n ≤ j → n ≤ k → digits_from j n ≡ digits_from k n
unfolding digits_from
digits_enough zero zero n h l = refl
digits_enough zero (suc k) n h l = let e : n ≡ 0 = omega arith in rw e
digits_enough (suc j) zero n h l = let e : n ≡ 0 = omega arith in rw e
digits_enough (suc j) (suc k) n h l =
    ap (λ (t : List ℕ). cond (eqb n 0) [] (last_behind t n)) (digits_enough j k (n / 10) (omega arith) (omega arith))

-- the numeral of a number below 10
pub decimal_one : (n : ℕ) → n < 10 → decimal_of n ≡ (48 + n) ∷ []
unfolding decimal_of digits_from
decimal_one n h =
    let none : digits_from n (n / 10) ≡ [] = digits_enough n 0 (n / 10) (omega arith) (omega arith) in
    let last : n % 10 ≡ n = omega arith in
    λ i. none i ++ ((48 + last i) ∷ [])

-- and of any other
decimal_more : (n : ℕ) → 10 ≤ n → decimal_of n ≡ last_behind (decimal_of (n / 10)) n
unfolding decimal_of digits_from
decimal_more n h =
    let m = n / 10 in rw (digits_enough n (suc m) m (omega arith) (omega arith), ne_eqb m 0 (omega arith))

-- what holds of one digit, and goes from the numeral of n / 10 to that of n, holds of every numeral
module _ (P : ℕ → List ℕ → Type 0) (one : (n : ℕ) → n < 10 → P n ((48 + n) ∷ []))
    (more : (n : ℕ) → 10 ≤ n → P (n / 10) (decimal_of (n / 10)) → P n (last_behind (decimal_of (n / 10)) n)) where
  within : (k n : ℕ) → n < k → Dec (n < 10) → P n (decimal_of n)
  within zero n h d = absurd (omega arith)
  within (suc k) n h (yes l) = rw (decimal_one n l) (one n l)
  within (suc k) n h (no g) =
      let l : 10 ≤ n = omega arith in
      rw (decimal_more n l) (more n l (within k (n / 10) (omega arith) (dec_lt (n / 10) 10)))

  pub decimal_induction : (n : ℕ) → P n (decimal_of n)
  decimal_induction n = within (suc n) n (omega arith) (dec_lt n 10)

pub decimal_value : (n : ℕ) → value_of (decimal_of n) ≡ n
decimal_value =
    decimal_induction (λ n t. value_of t ≡ n) (λ n h. omega arith)
    (λ n h e. rw (foldl-append, e) (omega arith))

digits-append : (s t : List ℕ) → all_digits (s ++ t) ≡ (all_digits s && all_digits t)
digits-append [] t = refl
digits-append (c ∷ s) t = rw (digits-append s t) (sym (and_assoc (is_digit c) (all_digits s) (all_digits t)))

digit_holds : (d : ℕ) → d < 10 → all_digits ((48 + d) ∷ []) ≡ true
digit_holds d h = rw (le-leb 48 (48 + d) (omega arith), le-leb (48 + d) 57 (omega arith))

pub decimal_digits : (n : ℕ) → all_digits (decimal_of n) ≡ true
decimal_digits =
    decimal_induction (λ n t. all_digits t ≡ true) digit_holds
    (λ n h e. rw (digits-append, e) (digit_holds (n % 10) (omega arith)))

front-kept : (s t : List ℕ) → 49 ≤ get_or s 0 0 → 49 ≤ get_or (s ++ t) 0 0
front-kept [] t h = absurd (omega arith)
front-kept (c ∷ s) t h = h

-- no zero in front
pub decimal_front : (n : ℕ) → 1 ≤ n → 49 ≤ get_or (decimal_of n) 0 0
decimal_front =
    decimal_induction (λ n t. 1 ≤ n → 49 ≤ get_or t 0 0) (λ n h l. omega arith)
    (λ n h next l. front-kept (decimal_of (n / 10)) ((48 + n % 10) ∷ []) (next (omega arith)))

-- k + 1 digits below 10^(k + 1) and from 10^k on, or from 0 on where k is 0
pub decimal_length : (k n : ℕ) → (1 ≤ k → 10 ^ k ≤ n) → n < 10 ^ suc k → suc k ≡ length (decimal_of n)
decimal_length zero n l h = rw (decimal_one n h)
decimal_length (suc k) n l h =
    let least : 10 ^ suc k ≤ n = l (omega arith) in
    let positive : 1 ≤ 10 ^ k = one-le-pow k 10 (omega arith) in
    rw (decimal_more n (omega arith), length-append, add-one)
    (ap suc (decimal_length k (n / 10) (omega arith) (omega arith)))

-- at most k + 1 digits below 10^(k + 1)
at_most : (k n : ℕ) → n < 10 ^ suc k → Dec (n < 10) → length (decimal_of n) ≤ suc k
at_most zero n h d = rw (decimal_one n h) (omega arith)
at_most (suc k) n h (yes l) = rw (decimal_one n l) (omega arith)
at_most (suc k) n h (no g) =
    rw (decimal_more n (omega arith), length-append)
    (omega (arith, at_most k (n / 10) (omega arith) (dec_lt (n / 10) 10)))

-- at most ten for a number of 32 bits
pub decimal_size : (n : ℕ) → n < 2 ^ 32 → length (decimal_of n) ≤ 10
decimal_size n h = at_most 9 n (omega arith) (dec_lt n 10)
