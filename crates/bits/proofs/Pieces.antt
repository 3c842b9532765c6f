-- Pieces of a string that goes on with z, and the numbers of pieces.
use Rattle.std.specs.Prelude.{◌≡◌, refl, Bool, true, false, List, [], ◌∷◌, ◌++◌, map, ℕ, zero, suc, ◌+◌, ◌*◌, ◌/◌, ◌%◌, ◌^◌, ◌≤◌, ◌<◌, eqb, length, get_or, take, drop}
use Rattle.std.proofs.Common.{sym, ◌∙◌, ap, append-nil, pow-suc, mod-eq_of_lt, mod-lt, zero-add, suc-add, one-add, arith, pow_pos, lit<, length-append, take-append-drop, take_all, get_or-drop, ext_get_or}
use Rattle.std.proofs.Math.Nat.{div-eq_of_lt, mod-one, add-mul-div_right}
use Rattle.std.proofs.Math.Decide.{dec_lt}
use Rattle.std.proofs.Math.Pow.{high}
use Rattle.std.proofs.lemmas.Nat.{mod-pow-add}
use Rattle.std.proofs.Math.ListN.{get_or-append, get_or-eq_default}
use Rattle.std.proofs.Math.Seq.{drop-nil}
use Rattle.std.proofs.lemmas.List.{take-append-le}
use Rattle.bits.specs.Strings.{Bits, Same}
use Rattle.bits.specs.Binary.{digit_of, number_of, first_bits, digits_in}
use Rattle.bits.proofs.Order.{same-append}
use Rattle.bits.proofs.Numbers.{number_from_lem, number-lt}

-- what is taken, or left out, is taken or left out of a map too
pub take-map : {A B : Type 0} (f : A → B) (n : ℕ) (l : List A) → take n (map f l) ≡ map f (take n l)
take-map f zero l = refl
take-map f (suc n) [] = refl
take-map {B = B} f (suc n) (a ∷ l) = ap {B = List B} (λ r. f a ∷ r) (take-map f n l)

pub drop-map : {A B : Type 0} (f : A → B) (n : ℕ) (l : List A) → drop n (map f l) ≡ map f (drop n l)
drop-map f zero l = refl
drop-map f (suc n) [] = refl
drop-map f (suc n) (a ∷ l) = drop-map f n l

pub same-first : (z : Bool) (n : ℕ) (s : Bits) → Same z s (first_bits z n s ++ drop n s)
same-first z zero s i = refl
same-first z (suc n) [] zero = refl
same-first z (suc n) [] (suc i) = same-first z n [] i ∙ ap (λ (r : Bits). get_or (first_bits z n [] ++ r) i z) (drop-nil n)
same-first z (suc n) (b ∷ s) i = same-append z (b ∷ []) s (first_bits z n s ++ drop n s) (same-first z n s) i

pub length-first : (z : Bool) (n : ℕ) (s : Bits) → length (first_bits z n s) ≡ n
length-first z zero s = refl
length-first z (suc n) [] = ap suc (length-first z n [])
length-first z (suc n) (b ∷ s) = ap suc (length-first z n s)

-- a piece of m + n bits is a piece of m and, after those, one of n
pub first-add : (z : Bool) (m n : ℕ) (s : Bits) → first_bits z (m + n) s ≡ first_bits z m s ++ first_bits z n (drop m s)
first-add z zero n s = rw zero-add
first-add z (suc m) n [] = rw suc-add (ap {B = Bits} (λ r. z ∷ r) (rw drop-nil at (first-add z m n [])))
first-add z (suc m) n (b ∷ s) = rw suc-add (ap {B = Bits} (λ r. b ∷ r) (first-add z m n s))

-- a string is the first piece of what it begins
pub first-append : (z : Bool) (s t : Bits) → first_bits z (length s) (s ++ t) ≡ s
first-append z [] t = refl
first-append z (b ∷ s) t = ap {B = Bits} (λ r. b ∷ r) (first-append z s t)

pub first-all : (z : Bool) (s : Bits) → first_bits z (length s) s ≡ s
first-all z s = rw append-nil at (first-append z s [])

-- a piece and the string agree as far as both go
pub take-first : (z : Bool) (n m : ℕ) (s : Bits) → n ≤ m → n ≤ length s → take n (first_bits z m s) ≡ take n s
take-first z zero m s h l = refl
take-first z (suc n) zero s h l = absurd (omega arith)
take-first z (suc n) (suc m) [] h l = absurd (omega arith)
take-first z (suc n) (suc m) (b ∷ s) h l =
    ap {B = Bits} (λ r. b ∷ r) (take-first z n m s (omega arith) (omega arith))

-- a piece within a string has nothing of what the string goes on with
pub first-take : (z : Bool) (n : ℕ) (s : Bits) → n ≤ length s → first_bits z n s ≡ take n s
first-take z n s h =
    sym (take_all n (first_bits z n s) (omega (arith, length-first z n s))) ∙ take-first z n n s (omega arith) h

-- nor of what follows the string
pub first-before : (z : Bool) (n : ℕ) (s t : Bits) → n ≤ length s → first_bits z n (s ++ t) ≡ first_bits z n s
first-before z n s t h =
    first-take z n (s ++ t) (rw length-append (omega arith)) ∙ take-append-le n s t h ∙ sym (first-take z n s h)

pub first-rest : (z : Bool) (n : ℕ) (s : Bits) → n ≤ length s → first_bits z n s ++ drop n s ≡ s
first-rest z n s h = rw (first-take z n s h) (take-append-drop n s)

first-at : (z : Bool) (n : ℕ) (s : Bits) (i : ℕ) → i < n → get_or (first_bits z n s) i z ≡ get_or s i z
first-at z n s i h =
    sym (get_or-append (first_bits z n s) (drop n s) z i (omega (arith, length-first z n s)))
    ∙ sym (same-first z n s i)

pub same-rest : (z : Bool) (n : ℕ) (s t : Bits) → Same z s t → Same z (drop n s) (drop n t)
same-rest z n s t e i = get_or-drop n s i z ∙ e (n + i) ∙ sym (get_or-drop n t i z)

-- pieces of one infinite string are equal
pub first-same : (z : Bool) (n : ℕ) (s t : Bits) → Same z s t → first_bits z n s ≡ first_bits z n t
first-same z n s t e =
    ext_get_or z (first_bits z n s) (first_bits z n t) (length-first z n s ∙ sym (length-first z n t)) λ i h.
    let l : i < n = omega (arith, length-first z n s) in first-at z n s i l ∙ e i ∙ sym (first-at z n t i l)

-- what is left out of a piece that holds the whole string is what it goes on with
pub same_piece : (z : Bool) (n : ℕ) (s : Bits) → length s ≤ n → Same z (first_bits z n s) s
same_piece z n s h i = by_place (dec_lt i n)
  where
    by_place : Dec (i < n) → get_or (first_bits z n s) i z ≡ get_or s i z
    by_place (yes l) = first-at z n s i l
    by_place (no l) =
        get_or-eq_default (first_bits z n s) z (omega (arith, length-first z n s))
        ∙ sym (get_or-eq_default s z (omega arith))

pub length-digits : (n v : ℕ) → length (digits_in n v) ≡ n
unfolding digits_in
length-digits zero v = refl
length-digits (suc n) v = ap suc (length-digits n v)

pub first-digits : (z : Bool) (n v : ℕ) → first_bits z n (digits_in n v) ≡ digits_in n v
first-digits z n v = rw length-digits at (first-all z (digits_in n v))

-- a bit's digit tells the bit, and a digit is the bit that it is tested to be
pub bit_digit : (b : Bool) → eqb (digit_of b) 1 ≡ b
bit_digit true = refl
bit_digit false = refl

digit_bit : (v : ℕ) → v < 2 → digit_of (eqb v 1) ≡ v
digit_bit zero h = refl
digit_bit (suc zero) h = refl
digit_bit (suc (suc v)) h = absurd (omega arith)

number_in : (n v : ℕ) → number_of (digits_in n v) ≡ v % 2 ^ n
unfolding digits_in
number_in zero v = sym (mod-one v)
number_in (suc n) v =
    let d = v / 2 ^ n % 2 in
    rw length-digits at (number_from_lem (2 * 0 + digit_of (eqb d 1)) (digits_in n v))
    ∙ rw (digit_bit d (mod-lt (v / 2 ^ n) (lit< tt)), number_in n v)
    (rw zero-add (sym (rw one-add at (mod-pow-add v 1 n))))

-- digits of a number that they hold are that number
pub number_of-digits : (n v : ℕ) → v < 2 ^ n → number_of (digits_in n v) ≡ v
number_of-digits n v h = number_in n v ∙ mod-eq_of_lt h

-- what stands above the digits isn't seen
digits-above : (n a v : ℕ) → digits_in n (a * 2 ^ n + v) ≡ digits_in n v
unfolding digits_in
digits-above zero a v = refl
digits-above (suc n) a v = λ i. eqb (digit i) 1 ∷ (ap (digits_in n) doubled ∙ digits-above n (2 * a) v) i
  where
    shifted : a * 2 ^ suc n + v ≡ v + 2 * a * 2 ^ n
    shifted = omega (arith, ap (λ (x : ℕ). a * x) (pow-suc 2 n))

    digit : (a * 2 ^ suc n + v) / 2 ^ n % 2 ≡ v / 2 ^ n % 2
    digit = rw (shifted, add-mul-div_right v (2 * a) (pow_pos n)) (omega arith)

    doubled : a * 2 ^ suc n + v ≡ 2 * a * 2 ^ n + v
    doubled = omega (arith, shifted)

-- a string is the digits of its number
pub digits-of-number : (s : Bits) → digits_in (length s) (number_of s) ≡ s
unfolding digits_in
digits-of-number [] = refl
digits-of-number (b ∷ s) = λ i. by_bit b i ∷ (rest ∙ digits-of-number s) i
  where
    by_bit : (b : Bool) → eqb (number_of (b ∷ s) / 2 ^ length s % 2) 1 ≡ b
    by_bit true = rw (number_from_lem 1 s, high 1 (length s) (number-lt s))
    by_bit false = rw (div-eq_of_lt (number-lt s))

    rest : digits_in (length s) (number_of (b ∷ s)) ≡ digits_in (length s) (number_of s)
    rest = rw (number_from_lem (2 * 0 + digit_of b) s) (digits-above (length s) (2 * 0 + digit_of b) (number_of s))

-- n digits of the number of a piece of n bits are the piece
pub digits-first : (z : Bool) (n : ℕ) (s : Bits) → digits_in n (number_of (first_bits z n s)) ≡ first_bits z n s
digits-first z n s = rw length-first at (digits-of-number (first_bits z n s))
