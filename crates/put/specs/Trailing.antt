-- The zeros at the end of a string, counted on its number: how many characters a key in two words has.
use Rattle.std.specs.Prelude.{◌≡◌, refl, Bool, true, false, [], ◌∷◌, ◌++◌, ℕ, suc, ◌+◌, ◌*◌, ◌/◌, ◌%◌, ◌^◌, ◌-◌, ◌<◌, length, get_or}
use Rattle.std.proofs.Common.{sym, ◌∙◌, ap, ap₂, inl, inr, append-nil, append_assoc, arith, add-one, pow_pos, length-append}
use Rattle.std.specs.Int.Bits.{bit_or, or_zero_r, or_shifted_r}
use Rattle.std.proofs.lemmas.Nat.{or_block}
use Rattle.std.specs.Int.Count.{count_trailing_zeros, trailing_of_zero}
use Rattle.bits.specs.Strings.{Bits, Same, behind_zero, trimmed, closed}
use Rattle.bits.specs.Binary.{number_of, digits_in}
use Rattle.bits.proofs.Order.{same-append}
use Rattle.bits.proofs.Trim.{Tidy, same-zero, same-trimmed, trimmed-same, tidy-trimmed, trimmed-ended}
use Rattle.bits.proofs.Numbers.{number_from_lem, number-append, number-lt}
use Rattle.bits.proofs.Pieces.{length-digits, number_of-digits}
use Rattle.blocks.specs.declared.Block.{Block}
use Rattle.blocks.specs.Blocks.{bits_of_block}

-- what is left of a string and the zeros counted make its length
abbrev Counted : Bits → Type 0
Counted s = length (trimmed s) + count_trailing_zeros (length s) (number_of s) ≡ length s

-- one more character at the end, the lowest digit: a 1 leaves nothing to drop, a 0 is dropped and counted
trailing_odd : (k v : ℕ) → count_trailing_zeros (k + 1) (2 * v + 1) ≡ 0
unfolding count_trailing_zeros
trailing_odd k v = let odd : (2 * v + 1) % 2 ≡ 1 = omega arith in rw (add-one k, odd)

trailing_even : (k v : ℕ) → count_trailing_zeros (k + 1) (2 * v + 0) ≡ suc (count_trailing_zeros k v)
unfolding count_trailing_zeros
trailing_even k v =
    let even : (2 * v + 0) % 2 ≡ 0 = omega arith in
    let half : (2 * v + 0) / 2 ≡ v = omega arith in
    rw (add-one k, even, half)

counted-more : (s : Bits) (b : Bool) → Counted s → Counted (s ++ (b ∷ []))
counted-more s true h =
    rw (number-append 0 s (true ∷ []), trimmed-ended s, length-append, trailing_odd (length s) (number_of s))
    (omega arith)
counted-more s false h =
    let dropped : trimmed (s ++ (false ∷ [])) ≡ trimmed s = trimmed-same (s ++ (false ∷ [])) s (same-zero s) in
    rw (number-append 0 s (false ∷ []), dropped, length-append, trailing_even (length s) (number_of s)) (omega arith)

counted_on : (s t : Bits) → Counted s → Counted (s ++ t)
counted_on s [] h = rw append-nil h
counted_on s (b ∷ t) h = rw append_assoc at (counted_on (s ++ (b ∷ [])) t (counted-more s b h))

counted : (s : Bits) → Counted s
unfolding count_trailing_zeros
counted s = counted_on [] s refl

-- zeros behind a string are dropped
trimmed-before : (s t : Bits) → number_of t ≡ 0 → trimmed (s ++ t) ≡ trimmed s
trimmed-before s t e = trimmed-same (s ++ t) s (rw append-nil at (same-append false s t [] zeros))
  where
    none : (r : Bits) → length r ≡ 0 → r ≡ []
    none [] h = refl
    none (b ∷ r) h = absurd (omega arith)

    dropped : trimmed t ≡ []
    dropped = none (trimmed t) (omega (arith, rw (e, trailing_of_zero) at (counted t)))

    zeros : Same false t []
    zeros i = sym (same-trimmed t i) ∙ ap (λ (r : Bits). get_or r i false) dropped

-- where nothing is left there is no 1
number-zero : (s : Bits) → trimmed s ≡ [] → number_of s ≡ 0
number-zero [] e = refl
number-zero (true ∷ s) e = absurd (omega (arith, ap length e))
number-zero (false ∷ s) e = number-zero s (rest (trimmed s) e)
  where
    rest : (r : Bits) → behind_zero r ≡ [] → r ≡ []
    rest [] h = refl
    rest (b ∷ r) h = absurd (omega (arith, ap length h))

-- a 1 keeps what stands before it
trimmed-after : (s t : Bits) → (number_of t ≡ 0 → ⊥) → trimmed (s ++ t) ≡ s ++ trimmed t
trimmed-after s t n = by_end (tidy-trimmed t)
  where
    by_end : Tidy (trimmed t) → trimmed (s ++ t) ≡ s ++ trimmed t
    by_end (inl e) = absurd (n (number-zero t e))
    by_end (inr (r, e)) =
        trimmed-same (s ++ t) (s ++ trimmed t) (same-append false s t (trimmed t) (λ i. sym (same-trimmed t i)))
        ∙ rw (e, ← append_assoc) (trimmed-ended (s ++ r))

-- the first character made a 1
first_one : (b : Bool) (s : Bits) → bit_or (number_of (b ∷ s)) (2 ^ length s) ≡ number_of (true ∷ s)
first_one true s =
    let top : 2 ^ length s ≡ 1 * 2 ^ length s + 0 = omega arith in
    ap₂ bit_or (number_from_lem 1 s) top ∙ or_block (length s) 1 1 (number_of s) 0 (number-lt s) (pow_pos (length s))
    ∙ rw or_zero_r (sym (number_from_lem 1 s))
first_one false s =
    let top : 2 ^ length s ≡ 1 * 2 ^ length s = omega arith in
    ap (bit_or (number_of s)) top ∙ or_shifted_r 1 (length s) (number_of s) (number-lt s) ∙ sym (number_from_lem 1 s)

-- a key that ends within its first word, whose second holds zeros alone
characters-before : (k : ℕ) (s t : Bits) → length s ≡ suc k → number_of t ≡ 0
    → length (closed (s ++ t)) + count_trailing_zeros (suc k) (bit_or (number_of s) (2 ^ k)) ≡ suc k
characters-before k [] t l e = absurd (omega arith)
characters-before k (b ∷ s) t l e =
    let m : length s ≡ k = omega arith in rw (trimmed-before s t e, ← m, first_one b s) (counted (true ∷ s))

pub characters_high : (b : Block) → b.high < 2 ^ 64 → b.low ≡ 0
    → 64 - count_trailing_zeros 64 (bit_or b.high (2 ^ 63)) ≡ length (closed (bits_of_block b))
unfolding bits_of_block
characters_high b h e =
    let s = digits_in 64 b.high in
    let t = digits_in 32 b.low in
    let zeros : number_of t ≡ 0 = number_of-digits 32 b.low (omega arith) ∙ e in
    omega (arith, rw (number_of-digits 64 b.high h) at (characters-before 63 s t (length-digits 64 b.high) zeros))

-- a key that ends within its second word
characters-after : (k : ℕ) (s t : Bits) → length s ≡ suc k → (number_of t ≡ 0 → ⊥)
    → length (closed (s ++ t)) + count_trailing_zeros (length t) (number_of t) ≡ length s + length t
characters-after k [] t l n = absurd (omega arith)
characters-after k (b ∷ s) t l n = rw (trimmed-after s t n, length-append) (omega (arith, counted t))

pub characters_low : (b : Block) → b.low < 2 ^ 32 → (b.low ≡ 0 → ⊥)
    → 96 - count_trailing_zeros 32 b.low ≡ length (closed (bits_of_block b))
unfolding bits_of_block
characters_low b h n =
    let s = digits_in 64 b.high in
    let t = digits_in 32 b.low in
    let low : number_of t ≡ b.low = number_of-digits 32 b.low h in
    let size : length s ≡ 64 = length-digits 64 b.high in
    omega (arith, rw (low, length-digits 32 b.low) at (characters-after 63 s t size (λ e. n (sym low ∙ e))))
