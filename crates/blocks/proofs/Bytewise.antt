-- The bytes of a machine word, lowest first, what a mask leaves of them, and facts that are checked of every byte.
use Rattle.std.specs.Prelude.{[], ◌≡◌, refl, ◌∷◌, ℕ, zero, suc, ◌+◌, ◌*◌, ◌/◌, ◌%◌, ◌^◌, ◌<◌, length}
use Rattle.std.proofs.Common.{sym, ◌∙◌, ap, ap₂, mod-lt, arith, pow_pos, lit<}
use Rattle.std.proofs.Math.Nat.{div-div-eq-div-mul}
use Rattle.std.proofs.Math.Decide.{dec_lt}
use Rattle.std.specs.Int.Bits.{bit_and, and_zero_r}
use Rattle.std.proofs.lemmas.Nat.{and_block, and_mask}
use Rattle.std.proofs.Math.Pow.{split}
use Rattle.blocks.specs.Bytewise.{low_bytes, ones, low_bits, table}

pub length_low : (n w : ℕ) → length (low_bytes n w) ≡ n
unfolding low_bytes
length_low zero w = refl
length_low (suc n) w = ap suc (length_low n (w / 256))

-- bit_and doesn't compute at large numbers, and / and % do
pub and_ones : (n w : ℕ) → bit_and w (ones n) ≡ low_bits (low_bytes n w)
unfolding low_bytes low_bits
and_ones zero w = and_zero_r w
and_ones (suc n) w =
    ap (λ (x : ℕ). bit_and x (ones (suc n))) (sym (split w 8))
    ∙ and_block 8 (w / 2 ^ 8) (ones n) (w % 2 ^ 8) 1 (mod-lt w (pow_pos 8)) (lit< tt)
    ∙ ap₂ (λ (x y : ℕ). x * 2 ^ 8 + y) (and_ones n (w / 2 ^ 8)) (and_mask (w % 2 ^ 8) 1)

-- the bytes of a word as code takes them out of it
pub eight-bytes : (w : ℕ)
    → low_bytes 8 w
    ≡ w % 256 ∷ w / 256 % 256 ∷ w / 65536 % 256 ∷ w / 16777216 % 256 ∷ w / 4294967296 % 256 ∷ w / 1099511627776 % 256
    ∷ w / 281474976710656 % 256 ∷ w / 72057594037927936 % 256 ∷ []
unfolding low_bytes
eight-bytes w = simp div-div-eq-div-mul

-- tables that are equal are equal at each place
pub table-at : {A : Type 0} (f g : ℕ → A) (n v : ℕ) → v < n → table f n ≡ table g n → f v ≡ g v
unfolding table
table-at f g zero v h e = absurd (omega arith)
table-at f g (suc n) v h e = by_place (dec_lt v n) (table-at f g n v)
  where
    by_place : Dec (v < n) → (v < n → table f n ≡ table g n → f v ≡ g v) → f v ≡ g v
    by_place (yes l) below = below l (cc)
    by_place (no l) below = let same : v ≡ n = omega arith in cc
