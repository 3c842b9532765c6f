-- Strings to bytes and back.
use Rattle.std.specs.Prelude.{◌≡◌, refl, false, List, [], ◌∷◌, ℕ, zero, suc, ◌+◌, ◌*◌, length, drop}
use Rattle.std.proofs.Common.{sym, ◌∙◌, ap, arith, length-append, drop_at}
use Rattle.bits.specs.Strings.{Bits, Same}
use Rattle.bits.specs.Binary.{number_of, first_bits, bytes_of, digits_in, bits_of_bytes}
use Rattle.bits.specs.Texts.{Bytes}
use Rattle.bits.proofs.Pieces.{same-rest, first-add, first-append, first-same}
use Rattle.bits.proofs.Pieces.{length-digits, number_of-digits, digits-first}

-- one infinite string has one column
pub bytes-same : (n : ℕ) (s t : Bits) → Same false s t → bytes_of n s ≡ bytes_of n t
bytes-same zero s t e = refl
bytes-same (suc n) s t e =
    let rest = bytes-same n (drop 8 s) (drop 8 t) (same-rest false 8 s t e) in
    λ i. number_of (first-same false 8 s t e i) ∷ rest i

pub bytes-length : (n : ℕ) (s : Bits) → length (bytes_of n s) ≡ n
bytes-length zero s = refl
bytes-length (suc n) s = ap suc (bytes-length n (drop 8 s))

pub bits-length : (l : List ℕ) → length (bits_of_bytes l) ≡ 8 * length l
bits-length [] = refl
bits-length (c ∷ l) = rw (length-append, length-digits) (omega (arith, bits-length l))

-- the first byte's bits come first, and then those of the others
pub byte-bits : (c : ℕ) (l : List ℕ) → first_bits false 8 (bits_of_bytes (c ∷ l)) ≡ digits_in 8 c
byte-bits c l = rw length-digits at (first-append false (digits_in 8 c) (bits_of_bytes l))

pub byte-rest : (c : ℕ) (l : List ℕ) → drop 8 (bits_of_bytes (c ∷ l)) ≡ bits_of_bytes l
byte-rest c l = drop_at (digits_in 8 c) (bits_of_bytes l) 8 (length-digits 8 c)

-- the bits of the bytes of a string are the string's first
pub bits_of_bytes_lem : (n : ℕ) (s : Bits) → bits_of_bytes (bytes_of n s) ≡ first_bits false (8 * n) s
bits_of_bytes_lem zero s = refl
bits_of_bytes_lem (suc n) s =
    let size : 8 + 8 * n ≡ 8 * suc n = omega arith in
    rw (digits-first false 8 s, bits_of_bytes_lem n (drop 8 s))
    (sym (first-add false 8 (8 * n) s) ∙ ap (λ (m : ℕ). first_bits false m s) size)

-- the bytes of the bits of bytes are those bytes
pub bytes_of-bits : (l : List ℕ) → Bytes l → bytes_of (length l) (bits_of_bytes l) ≡ l
bytes_of-bits [] h = refl
bytes_of-bits (c ∷ l) h =
    let first : number_of (first_bits false 8 (bits_of_bytes (c ∷ l))) ≡ c = rw byte-bits (number_of-digits 8 c (h 0)) in
    λ i. first i ∷ (ap (bytes_of (length l)) (byte-rest c l) ∙ bytes_of-bits l (λ j. h (suc j))) i
