-- The numbers of pieces of a string: as sums over the parts of a piece, and shifted within a machine word.
use Rattle.std.specs.Prelude.{◌≡◌, refl, Bool, false, [], ℕ, zero, suc, ◌+◌, ◌*◌, ◌/◌, ◌%◌, ◌^◌, ◌≤◌, ◌<◌, length, drop}
use Rattle.std.proofs.Common.{sym, ◌∙◌, ap, add-zero, add_comm, arith, drop_of_length-le, pow-add, shl_lt, shl_exact, drop-drop}
use Rattle.std.proofs.Math.Nat.{zero-div}
use Rattle.std.proofs.Math.Pow.{high, low}
use Rattle.std.proofs.Math.Seq.{drop-length}
use Rattle.bits.specs.Strings.{Bits}
use Rattle.bits.specs.Binary.{number_of, first_bits}
use Rattle.bits.proofs.Numbers.{number_from_lem, number-append, number-lt}
use Rattle.bits.proofs.Pieces.{length-first, first-add, first-all}

pub first-lt : (z : Bool) (n : ℕ) (s : Bits) → number_of (first_bits z n s) < 2 ^ n
first-lt z n s = rw length-first at (number-lt (first_bits z n s))

-- a piece of m + n bits is one of m, shifted by n, and one of n
pub number-first : (z : Bool) (m n : ℕ) (s : Bits)
    → number_of (first_bits z (m + n) s) ≡ number_of (first_bits z m s) * 2 ^ n + number_of (first_bits z n (drop m s))
number-first z m n s =
    rw (first-add, number-append)
    (rw length-first at (number_from_lem (number_of (first_bits z m s)) (first_bits z n (drop m s))))

-- a piece shifted down is a shorter piece
pub first_shorter : (z : Bool) (m n : ℕ) (s : Bits)
    → number_of (first_bits z (m + n) s) / 2 ^ n ≡ number_of (first_bits z m s)
first_shorter z m n s = rw number-first (high (number_of (first_bits z m s)) n (first-lt z n (drop m s)))

-- zeros add nothing
pub number-zeros : (n : ℕ) → number_of (first_bits false n []) ≡ 0
number-zeros zero = refl
number-zeros (suc n) = number-zeros n

-- and there are only zeros past the end
pub number_past : (n m : ℕ) (s : Bits) → length s ≤ m → number_of (first_bits false n (drop m s)) ≡ 0
number_past n m s h = rw (drop_of_length-le s h) (number-zeros n)

-- a string that is extended by n zeros is shifted by n
pub number_extended : (n : ℕ) (s : Bits) → number_of (first_bits false (length s + n) s) ≡ number_of s * 2 ^ n
number_extended n s = rw (number-first, first-all, drop-length, number-zeros, add-zero)

-- a string is moved to the top of a word of w bits by as many places as it lacks
pub number-raised : (w n : ℕ) (s : Bits) → length s + n ≡ w
    → (number_of s * 2 ^ n) % 2 ^ w ≡ number_of (first_bits false w s)
number-raised w n s e =
    shl_exact (length s) n w (number-lt s) (omega arith) ∙ rw e at (sym (number_extended n s))

-- a piece of m + n bits shifted up by m, in a word of as many bits, loses its first m
first-kept : (z : Bool) (m n : ℕ) (s : Bits)
    → (number_of (first_bits z (m + n) s) * 2 ^ m) % 2 ^ (m + n) ≡ number_of (first_bits z n (drop m s)) * 2 ^ m
first-kept z m n s =
    let lost = number_of (first_bits z m s) in
    let kept = number_of (first_bits z n (drop m s)) in
    let parts : number_of (first_bits z (m + n) s) * 2 ^ m ≡ lost * 2 ^ (m + n) + kept * 2 ^ m =
    omega (arith, ap (λ (x : ℕ). x * 2 ^ m) (number-first z m n s), ap (λ (x : ℕ). lost * x) (pow-add 2 m n)) in
    rw parts (low lost (m + n) (rw (add_comm m n) (shl_lt n m (first-lt z n (drop m s)))))

-- a piece that lies in two words: what is kept of the first, and the front of the second
pub first-joined : (z : Bool) (m n : ℕ) (s : Bits)
    → (number_of (first_bits z (m + n) s) * 2 ^ m) % 2 ^ (m + n)
    + number_of (first_bits z (m + n) (drop (m + n) s)) / 2 ^ n
    ≡ number_of (first_bits z (m + n) (drop m s))
first-joined z m n s =
    rw (first-kept z m n s, first_shorter z m n (drop (m + n) s))
    (sym (rw (drop-drop, add_comm n m) at (number-first z n m (drop m s))))

-- where the string ends with the first word there is nothing to join
pub first_shifted : (m n : ℕ) (s : Bits) → length s ≤ m + n
    → (number_of (first_bits false (m + n) s) * 2 ^ m) % 2 ^ (m + n) ≡ number_of (first_bits false (m + n) (drop m s))
first_shifted m n s h = rw (number_past (m + n) (m + n) s h, zero-div, add-zero) at (first-joined false m n s)
