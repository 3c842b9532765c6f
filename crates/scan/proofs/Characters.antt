-- The word in front of a text, read from its characters: its run is counted, zeros are told from the end, digits are
-- read.
use Rattle.std.specs.Prelude.{◌≡◌, refl, Bool, true, false, not, ◌&&◌, Option, Some, None, List, [], ◌∷◌, ℕ, zero, suc, ◌+◌, ◌*◌, ◌-◌, ◌^◌, ◌≤◌, ◌<◌, min, eqb, length, get_or, take, drop, Err}
use Rattle.std.proofs.Common.{sym, ◌∙◌, ap, add-zero, add-one, ne_eqb, pow_mono}
use Rattle.std.proofs.Common.{drop_of_length-le, drop-cons, get_or-drop}
use Rattle.std.specs.Bool.{beq}
use Rattle.std.specs.List.{list_all, HoldsAt}
use Rattle.std.specs.Option.{MatchOption}
use Rattle.std.specs.Borrow.{Bor}
use Rattle.std.proofs.Math.Decide.{dec_lt}
use Rattle.std.proofs.lemmas.Bool.{false≢true}
use native.Mathlib.Omega.{arith}
use mir.Val.{bool_byte}
use Rattle.std.proofs.lemmas.List.{length-map}
use Rattle.std.proofs.Math.ListN.{get_or-map, get_or-eq_default}
use Rattle.bits.specs.Strings.{Bits, all_ones}
use Rattle.bits.specs.Binary.{number_from, first_bits}
use Rattle.bits.proofs.Numbers.{number-append}
use Rattle.bits.proofs.Memory.{lent_part}
use Rattle.bits.proofs.Pieces.{drop-map, length-first, first-add}
use Rattle.bits.specs.Texts.{bits_of_text}
use Rattle.families.specs.Families.{ended}
use Rattle.families.specs.Words.{run_of, first_number}
use Rattle.families.proofs.Digits.{number_low, number_high}
use Rattle.load.specs.Gathering.{byte_digit}
use Rattle.scan.specs.declared.Place.{Place}
use Rattle.refusals.specs.declared.Refusal.TheVariants.{OutOfRange}
use Rattle.scan.specs.Characters.{bits_read, Ran}
use Rattle.scan.specs.Taking.{is_turned, took, taken_from, taken_at}
use Rattle.scan.proofs.Taking.{taken_many, taken_few}

-- whether the character at i, as it is read, is a zero
abbrev zero_at : List ℕ → Bool → ℕ → Bool
zero_at k z i = beq (eqb (get_or k i 0) 49) z

bits-length : (k : List ℕ) (z : Bool) → length (bits_read k z) ≡ length k
bits-length k true = rw (length-map, length-map)
bits-length k false = rw length-map

pub bit-read : (k : List ℕ) (z : Bool) (i : ℕ) → get_or (bits_read k z) i z ≡ not (zero_at k z i)
bit-read k z i = by_kind z (eqb (get_or k i 0) 49) (get_or-map (λ c. eqb c 49) k i 0)
  where
    by_kind : (z b : Bool) → get_or (bits_of_text k) i false ≡ b → get_or (bits_read k z) i z ≡ not (beq b z)
    by_kind true true e = get_or-map not (bits_of_text k) i false ∙ ap not e
    by_kind true false e = get_or-map not (bits_of_text k) i false ∙ ap not e
    by_kind false true e = e
    by_kind false false e = e

-- past the text the bits go on with z, and within it the character that was got says the bit
pub bit_got : (k : List ℕ) (z : Bool) (i : ℕ) (o : Option (Bor ℕ)) (r : Bool) {P : Bor ℕ → Type 0}
    → MatchOption o (length k ≤ i) (λ x. (i < length k) × HoldsAt (λ y. x.now ≡ y) k i) → MatchOption o (r ≡ z) P
    → ((x : Bor ℕ) → P x → r ≡ not (beq (eqb x.now 49) z)) → r ≡ get_or (bits_read k z) i z
bit_got k z i None r l e f = e ∙ sym (get_or-eq_default (bits_read k z) z {n = i} (omega (arith, bits-length k z)))
bit_got k z i (Some x) r (l, h) e f = f x e ∙ ap (λ (c : ℕ). not (beq (eqb c 49) z)) (h 0) ∙ sym (bit-read k z i)

pub ran_none : (s : Bits) → Ran s 0
ran_none s = omega arith

module _ (k : List ℕ) (z : Bool) (n : ℕ) where
  abbrev s : Bits
  s = bits_read k z

  next : n < length k → drop n s ≡ not (zero_at k z n) ∷ drop (suc n) s
  next h = rw (← bit-read k z n) (drop-cons s n z (omega (arith, bits-length k z)))

  past : length k ≤ n → drop n s ≡ []
  past h = drop_of_length-le s {i = n} (omega (arith, bits-length k z))

  pub ran-more : n < length k → zero_at k z n ≡ false → Ran s n → Ran s (n + 1)
  ran-more l e p =
      let step : run_of (drop n s) ≡ suc (run_of (drop (suc n) s)) = rw (next l, e) in rw add-one (omega arith)

  pub ran_stopped : n < length k → zero_at k z n ≡ true → Ran s n → run_of s ≡ n
  ran_stopped l e p = let step : run_of (drop n s) ≡ 0 = rw (next l, e) in omega arith

  pub ran-all : length k ≤ n → Ran s n → run_of s ≡ n
  ran-all l p = let step : run_of (drop n s) ≡ 0 = rw (past l) in omega arith

  -- past the text the bits go on with z
  pub bit_past : length k ≤ n → get_or s n z ≡ z
  bit_past l = get_or-eq_default s z {n = n} (omega (arith, bits-length k z))

-- a turned word is due: whether only ones, which are zeros turned, are left after n characters
module _ (k : List ℕ) (n : ℕ) where
  abbrev t : Bits
  t = bits_read k true

  pub ones-more : n < length k → (get_or k n 0 ≡ 49 → ⊥) → all_ones (drop n t) ≡ all_ones (drop (n + 1) t)
  ones-more l h = rw (next k true n l, ne_eqb (get_or k n 0) 49 h, add-one)

  pub ones_broken : n < length k → get_or k n 0 ≡ 49 → all_ones (drop n t) ≡ false
  ones_broken l e = rw (next k true n l, e)

  pub ones-all : length k ≤ n → all_ones (drop n t) ≡ true
  ones-all l = rw (past k true n l)

-- looking by the library: no character from there on is a 1
pub zeros_are : (at : ℕ) (k : List ℕ)
    → list_all (λ c. not (eqb c 49)) (drop at k) ≡ all_ones (drop at (bits_read k true))
zeros_are zero [] = refl
zeros_are (suc at) [] = refl
zeros_are (suc at) (c ∷ k) = zeros_are at k
zeros_are zero (c ∷ k) = ap (λ b. not (eqb c 49) && b) (zeros_are zero k)

-- ones in front add nothing to that
ones-after : (n : ℕ) (s : Bits) → n ≤ run_of s → all_ones (drop n s) ≡ all_ones s
ones-after zero s h = refl
ones-after (suc n) [] h = refl
ones-after (suc n) (true ∷ s) h = ones-after n s (omega arith)
ones-after (suc n) (false ∷ s) h = absurd (omega arith)

pub ended-after : (k : List ℕ) (z : Bool) (n : ℕ) {b : Bool} → z ≡ true → n ≤ run_of (bits_read k z)
    → b ≡ ended true (drop n (bits_read k true)) → ended z (bits_read k z) ≡ b
ended-after k true n e l h = sym (h ∙ ones-after n (bits_read k true) l)
ended-after k false n e l h = absurd (false≢true e)

first_one : (z : Bool) (s : Bits) → first_bits z 1 s ≡ get_or s 0 z ∷ []
first_one z [] = refl
first_one z (b ∷ s) = refl

-- v is the number of the first i digits after a run of m and its zero
module _ (z : Bool) (s : Bits) (m i : ℕ) {v : ℕ} (e : v ≡ number_from 1 (first_bits z i (drop (suc m) s))) where
  -- one digit more, which stands at j
  pub digits-more : {b : Bool} (j : ℕ) → suc m + i ≡ j → b ≡ get_or s j z
      → 2 * v + bool_byte b ≡ number_from 1 (first_bits z (i + 1) (drop (suc m) s))
  digits-more j l h =
      rw (e, h, byte_digit, first-add z i 1 (drop (suc m) s), number-append, first_one)
      (rw (get_or-drop, get_or-drop, add-zero, l))

  pub digits_fit : i < 31 → v < 2 ^ 31
  digits_fit l =
      omega (
        arith,
        rw length-first at (number_high (first_bits z i (drop (suc m) s))),
        pow_mono {i = suc i} {j = 31} l,
      )

-- what is taken, by the run that is counted
module _ (z : Bool) (s : Bits) (h : ended z s ≡ false) {r : ℕ} (e : r ≡ min 32 (run_of s)) where
  abbrev digits : Bits
  digits = first_bits z (run_of s) (drop (suc (run_of s)) s)

  low : 2 ^ run_of s ≤ first_number z s
  unfolding first_number
  low = rw length-first at (number_low digits)

  high : first_number z s < 2 ^ suc (run_of s)
  unfolding first_number
  high = rw length-first at (number_high digits)

  pub run_long : 31 < r → Err OutOfRange ≡ taken_from z s
  run_long l = taken_many z s h (run_of s) low (omega arith)

  pub run-word : r < 32 → took (number_from 1 (first_bits z r (drop (suc r) s))) (2 * r + 1) ≡ taken_from z s
  unfolding first_number
  run-word l = let same : r ≡ run_of s = omega arith in rw same (taken_few z s h (run_of s) low high (omega arith))

-- at a place that is what is taken from the text behind the characters used, as it is lent
pub taken-lent : (k : List ℕ) (p : Place) (at : ℕ) {z : Bool} → z ≡ is_turned p.due → at ≡ min p.used (length k)
    → taken_from z (bits_read (take (length k - at) (drop at k)) z) ≡ taken_at (bits_of_text k) p
taken-lent k p at e h = rw (e, lent_part, behind, ← drop-map (λ c. eqb c 49) p.used k) refl
  where
    by_size : Dec (p.used < length k) → drop at k ≡ drop p.used k
    by_size (yes l) = ap (λ (n : ℕ). drop n k) {x = at} {y = p.used} (omega arith)
    by_size (no l) = drop_of_length-le k (omega arith) ∙ sym (drop_of_length-le k (omega arith))

    behind : drop at k ≡ drop p.used k
    behind = by_size (dec_lt p.used (length k))
