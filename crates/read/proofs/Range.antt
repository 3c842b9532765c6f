-- The number found says the value, or that it is over the limit: it is from 2^32 on where the value isn't.
use Rattle.std.specs.Prelude.{◌≡◌, Bool, not, List, [], ◌∷◌, ◌++◌, ℕ, suc, ◌+◌, ◌/◌, ◌%◌, ◌^◌, ◌≤◌, ◌<◌, eqb, length, Ok, Err}
use Rattle.std.proofs.Math.Path.{refl, ap}
use Rattle.std.proofs.Common.{◌∙◌, subst, arith}
use Rattle.std.proofs.Math.Bool.{true, false, cond}
use Rattle.bits.specs.Strings.{Bits, turn}
use Rattle.bits.specs.Binary.{digits_in}
use Rattle.blocks.specs.Blocks.{bits_of_block}
use Rattle.blocks.specs.declared.Block.{Block}
use Rattle.families.specs.Words.{word_of}
use Rattle.families.proofs.Published.{words1983}
use Rattle.fractions.specs.Fractions.{Ratio, ◌over◌, Quotients}
use Rattle.fractions.specs.Convergents.{convergent, forward}
use Rattle.fractions.proofs.Convergents.{forward_value, forward_grows}
use Rattle.keys.specs.Keys.{read}
use Rattle.keys.proofs.Reading.{read-spells}
use Rattle.keys.proofs.Back.{value_denominator}
use Rattle.read.specs.Finding.{packed, ratio_in, fraction, value_in, is_over, found_from, Finds, found_in, found_of}
use Rattle.read.proofs.Next.{not_over, within, ratio-packed}

-- where the last convergent isn't over the limit, none is, and it is found
found-within : (z : Bool) (l : List ℕ) (used : ℕ) (u v : Ratio) → Quotients z l → is_over (forward u v l) ≡ false
    → found_from used u v l ≡ packed (forward u v l)
unfolding found_from
found-within z [] used u v q e = refl
found-within z (a ∷ l) used u v (h, q) e =
    let w = convergent a u v in
    let (n, d) = within (forward w u l) e in
    let (m, k) = forward_grows (not z) l w u q in
    rw (not_over w (omega arith) (omega arith)) (found-within (not z) l (used + length (word_of a)) w u q e)

-- r is found in s, and its size says whether the value is over the limit
pub record Settles (s : Bits) (r : ℕ) : Type 0 where
  pub number : r ≡ found_in s
  pub low : is_over (value_in s) ≡ true → r < 2 ^ 32
  pub value : is_over (value_in s) ≡ false → r ≡ packed (value_in s)

-- l are the quotients of s after its first character, which gives u and v
settles : (s : Bits) (r : ℕ) (z : Bool) (l : List ℕ) (u v : Ratio) → Quotients z l → forward u v l ≡ value_in s
    → r ≡ found_from 1 u v l → found_from 1 u v l ≡ found_in s → (is_over (forward u v l) ≡ true → r < 2 ^ 32) → Settles s r
settles s r z l u v q e n f o = record {
  number = n ∙ f;
  low = subst (λ (w : Ratio). is_over w ≡ true → r < 2 ^ 32) e o;
  value = subst (λ (w : Ratio). is_over w ≡ false → r ≡ packed w) e
      (λ h. n ∙ found-within z l 1 u v q h);
}

settles_one : (s : Bits) (r : ℕ) → Finds (true ∷ s) 1 false (1 over 0) (0 over 1) r → Settles (true ∷ s) r
unfolding found_in
settles_one s r f =
    let l = read words1983 false s in
    settles (true ∷ s) r false l (1 over 0) (0 over 1) (read-spells words1983 false s).quotients
    (forward_value l) f.number refl f.low

settles-zero : (s : Bits) (r : ℕ) → Finds (false ∷ s) 1 true (0 over 1) (1 over 0) r → Settles (false ∷ s) r
unfolding found_in
settles-zero s r f =
    let l = read words1983 true (turn s) in
    settles (false ∷ s) r true l (0 over 1) (1 over 0) (read-spells words1983 true (turn s)).quotients
    (forward_value (0 ∷ l)) f.number refl f.low

digits_top : (n v : ℕ) → digits_in (suc n) v ≡ eqb (v / 2 ^ n % 2) 1 ∷ digits_in n v
unfolding digits_in
digits_top n v = refl

-- a block's first character is the top bit of its first word
block_top : (b : Block) (d : ℕ) → b.high / 2 ^ 63 % 2 ≡ d
    → bits_of_block b ≡ eqb d 1 ∷ (digits_in 63 b.high ++ digits_in 32 b.low)
unfolding bits_of_block
block_top b d e = rw (digits_top 63 b.high, e) refl

module _ (b : Block) (r : ℕ) where
  abbrev rest : Bits
  rest = digits_in 63 b.high ++ digits_in 32 b.low

  pub settles-word : 2 ^ 63 ≤ b.high → b.high < 2 ^ 64 → Finds (bits_of_block b) 1 false (1 over 0) (0 over 1) r
      → Settles (bits_of_block b) r
  settles-word l h = rw (block_top b 1 (omega arith)) (settles_one rest r)

  pub settles_turned : b.high < 2 ^ 63 → Finds (bits_of_block b) 1 true (0 over 1) (1 over 0) r
      → Settles (bits_of_block b) r
  settles_turned h = rw (block_top b 0 (omega arith)) (settles-zero rest r)

module _ (s : Bits) (r : ℕ) (f : Settles s r) where
  abbrev v : Ratio
  v = value_in s

  pub answer_over : r < 2 ^ 32 → Err r ≡ found_of s
  unfolding found_of
  answer_over h = by_test (is_over v) refl
    where
      by_test : (o : Bool) → is_over v ≡ o
          → Err r ≡ cond o (Err (found_in s)) (Ok (fraction v))
      by_test true e = ap Err f.number
      by_test false e = absurd (omega (arith, f.value e, value_denominator words1983 s))

  pub answer_ratio : 2 ^ 32 ≤ r → Ok (fraction (ratio_in r)) ≡ found_of s
  unfolding found_of
  answer_ratio h = by_test (is_over v) refl
    where
      by_test : (o : Bool) → is_over v ≡ o
          → Ok (fraction (ratio_in r)) ≡ cond o (Err (found_in s)) (Ok (fraction v))
      by_test true e = absurd (omega (arith, f.low e))
      by_test false e =
          rw (f.value e)
          (ap (λ (w : Ratio). Ok (fraction w)) (ratio-packed v (within v e).0))
