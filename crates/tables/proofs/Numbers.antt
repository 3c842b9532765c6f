-- Numbers and rows in bytes, there and back.
use Rattle.std.specs.Prelude.{◌≡◌, refl, List, [], ◌∷◌, ◌++◌, ℕ, zero, suc, ◌+◌, ◌*◌, ◌/◌, ◌^◌, ◌≤◌, ◌<◌, length, take, drop}
use Rattle.std.proofs.Common.{sym, ◌∙◌, ap, pow-suc, div-add-mod', div-lt_iff_lt-mul, arith, lit<, length-append, length-drop, length-take-le, take-add, drop-drop, get_or-drop}
use Rattle.std.proofs.Math.Arith.{digits_div, digits_mod}
use Rattle.bits.specs.Texts.{Bytes}
use Rattle.blocks.specs.Bytewise.{low_bytes}
use Rattle.blocks.proofs.Bytewise.{length_low}
use Rattle.tables.specs.declared.Row.{Row}
use Rattle.tables.specs.Rows.{low_number, number_bytes, row_of}

-- the bytes of the number of bytes
pub low_bytes_lem : (l : List ℕ) → Bytes l → low_bytes (length l) (low_number l) ≡ l
unfolding low_bytes low_number
low_bytes_lem [] h = refl
low_bytes_lem (c ∷ l) h =
    let same : c + 256 * low_number l ≡ low_number l * 256 + c = omega arith in
    rw (same, digits_mod (low_number l) (h 0), digits_div (low_number l) (h 0))
    (ap {B = List ℕ} (λ t. c ∷ t) (low_bytes_lem l (λ i. h (suc i))))

-- the number of the bytes of a number
pub low_number_lem : (n w : ℕ) → w < 256 ^ n → low_number (low_bytes n w) ≡ w
unfolding low_bytes low_number
low_number_lem zero w h = omega arith
low_number_lem (suc n) w h =
    let less : w / 256 < 256 ^ n = (div-lt_iff_lt-mul (lit< tt)).1 (omega (arith, pow-suc 256 n)) in
    rw (low_number_lem n (w / 256) less) (omega (arith, div-add-mod' w 256))

bytes-taken : (n : ℕ) (m : List ℕ) → Bytes m → Bytes (take n m)
bytes-taken zero m h i = lit< tt
bytes-taken (suc n) [] h i = lit< tt
bytes-taken (suc n) (c ∷ m) h zero = h 0
bytes-taken (suc n) (c ∷ m) h (suc i) = bytes-taken n m (λ j. h (suc j)) i

pub bytes_dropped : (n : ℕ) (m : List ℕ) → Bytes m → Bytes (drop n m)
bytes_dropped n m h i = rw (get_or-drop n m i 0) (h (n + i))

-- a number of four bytes, as bytes again
four_there : (m : List ℕ) (at : ℕ) → at + 4 ≤ length m → Bytes m
    → low_bytes 4 (low_number (take 4 (drop at m))) ≡ take 4 (drop at m)
four_there m at h small =
    let four : length (take 4 (drop at m)) ≡ 4 = length-take-le 4 (drop at m) (rw length-drop (omega arith)) in
    rw four at (low_bytes_lem (take 4 (drop at m)) (bytes-taken 4 (drop at m) (bytes_dropped at m small)))

pub length-numbers : (r : Row) → length (number_bytes r) ≡ 12
length-numbers r = rw (length-append, length-append, length_low, length_low, length_low)

-- the three numbers at the front of memory, as bytes again
pub numbers_there : (m : List ℕ) → 12 ≤ length m → Bytes m → number_bytes (row_of m) ≡ take 12 m
unfolding row_of
numbers_there m h small =
    rw (four_there m 0 (omega arith) small, four_there m 4 (omega arith) small, four_there m 8 (omega arith) small)
    (sym (take-add 4 8 m ∙ ap (λ (t : List ℕ). take 4 m ++ t) (take-add 4 4 (drop 4 m) ∙ rw drop-drop)))

-- a number of at most four bytes
four-small : (m : List ℕ) → Bytes m → low_number (take 4 m) ≤ 4294967295
unfolding low_number
four-small [] h = omega arith
four-small (a ∷ []) h = omega (arith, h 0)
four-small (a ∷ b ∷ []) h = omega (arith, h 0, h 1)
four-small (a ∷ b ∷ c ∷ []) h = omega (arith, h 0, h 1, h 2)
four-small (a ∷ b ∷ c ∷ d ∷ l) h = omega (arith, h 0, h 1, h 2, h 3)

-- the numbers of a row have 32 bits
pub record Small (r : Row) : Type 0 where
  pub numerator : r.numerator ≤ 4294967295
  pub denominator : r.denominator ≤ 4294967295
  pub quantity : r.quantity ≤ 4294967295

pub row-small : (m : List ℕ) → Bytes m → Small (row_of m)
unfolding row_of
row-small m h = record {
  numerator = four-small m h;
  denominator = four-small (drop 4 m) (bytes_dropped 4 m h);
  quantity = four-small (drop 8 m) (bytes_dropped 8 m h);
}
