-- A turned word is due: whether anything but zeros is left, and what is taken then.
use Rattle.std.specs.Prelude.{◌≡◌, refl, Bool, true, false, [], ◌∷◌, ◌++◌, ℕ, zero, suc, ◌+◌, ◌-◌, ◌^◌, ◌≤◌, length, drop, None, Ok, Err}
use Rattle.std.proofs.Common.{sym, ◌∙◌, ap, arith, pow_pos, length-drop, drop-drop}
use Rattle.std.proofs.lemmas.Bool.{false≢true}
use Rattle.bits.specs.Strings.{Bits, turn, all_ones}
use Rattle.bits.specs.Binary.{number_of, first_bits}
use Rattle.bits.proofs.Numbers.{number-turn}
use Rattle.bits.proofs.Pieces.{length-first}
use Rattle.bits.proofs.Sums.{number-first}
use Rattle.families.specs.Families.{ended}
use Rattle.families.proofs.Digits.{number_low}
use Rattle.refusals.specs.declared.Refusal.TheVariants.{OutOfRange}
use Rattle.scan.specs.Taking.{Taken, taken_from, taken_at}
use Rattle.scan.specs.Windows.{window_at}
use Rattle.scan.specs.declared.Kind.TheVariants.{Turned}
use Rattle.scan.specs.declared.Place.{Place}
use Rattle.scan.proofs.Taking.{taken-ended, taken_at_lem}
use Rattle.scan.specs.Runs.{Counted}
use Rattle.scan.proofs.Begun.{taken_long}

first_turned : (n : ℕ) (s : Bits) → first_bits true n (turn s) ≡ turn (first_bits false n s)
first_turned zero s = refl
first_turned (suc n) [] = ap {B = Bits} (λ r. true ∷ r) (first_turned n [])
first_turned (suc n) (b ∷ s) = ap {B = Bits} (λ r. turn (b ∷ []) ++ r) (first_turned n s)

-- the window of the turned string is the window's complement
pub turned_window : (s : Bits) (w : ℕ) → w ≡ number_of (first_bits false 64 s)
    → number_of (first_bits true 64 (turn s)) ≡ 2 ^ 64 - 1 - w
turned_window s w e =
    omega (
      arith,
      ap number_of (first_turned 64 s),
      rw length-first at (number-turn (first_bits false 64 s)),
    )

-- of zeros each piece is zero
zero_piece : (n : ℕ) (s : Bits) → all_ones (turn s) ≡ true → number_of (first_bits false n s) ≡ 0
zero_piece zero s h = refl
zero_piece (suc n) [] h = zero_piece n [] refl
zero_piece (suc n) (true ∷ s) h = absurd (false≢true h)
zero_piece (suc n) (false ∷ s) h = zero_piece n s h

pub not-ended : (n : ℕ) (s : Bits) → (number_of (first_bits false n s) ≡ 0 → ⊥) → ended true (turn s) ≡ false
not-ended n s h = by_test (all_ones (turn s)) refl
  where
    by_test : (b : Bool) → all_ones (turn s) ≡ b → b ≡ false
    by_test true e = absurd (h (zero_piece n s e))
    by_test false e = refl

-- a piece that holds the whole string and is zero is the end
is_ended : (n : ℕ) (s : Bits) → length s ≤ n → number_of (first_bits false n s) ≡ 0 → ended true (turn s) ≡ true
is_ended n [] l h = refl
is_ended zero (b ∷ s) l h = absurd (omega arith)
is_ended (suc n) (true ∷ s) l h =
    absurd (omega (arith, number_low (first_bits false n s), pow_pos (length (first_bits false n s))))
is_ended (suc n) (false ∷ s) l h = is_ended n s (omega arith) h

-- 64 zeros and more: the run is long, unless the rest is zeros too
pub long_turned : (s : Bits) → number_of (first_bits false 64 s) ≡ 0
    → (number_of (first_bits false 64 (drop 64 s)) ≡ 0 → ⊥)
    → Err OutOfRange ≡ taken_from true (turn s)
long_turned s e h =
    taken_long true (turn s)
    (not-ended (64 + 64) s λ n. h (omega (arith, number-first false 64 64 s)))
    (turned_window s 0 (sym e)) all_ones_lem (omega arith)
  where
    all_ones_lem : Counted (2 ^ 64 - 1) 32
    all_ones_lem = record { most = omega arith; ones = omega arith; stopped = λ l. absurd (omega arith) }

pub end_turned : (n : ℕ) (s : Bits) → length s ≤ n → number_of (first_bits false n s) ≡ 0
    → Ok None ≡ taken_from true (turn s)
end_turned n s l e = sym (taken-ended true (turn s) (is_ended n s l e))

-- the same in two windows
pub end_in_two : (s : Bits) → length s ≤ 128 → number_of (first_bits false 64 s) ≡ 0
    → number_of (first_bits false 64 (drop 64 s)) ≡ 0 → Ok None ≡ taken_from true (turn s)
end_in_two s l e f = end_turned (64 + 64) s l (omega (arith, number-first false 64 64 s))

-- the same at a place of a string of 96 bits, where a turned word is due and w is the window
module _ (b : Bits) (whole : length b ≡ 96) (p : Place) (e : p.due ≡ Turned) {w : ℕ} (first : w ≡ window_at b p.used)
  where
    abbrev left : Bits
    left = drop p.used b

    here : {t : Taken} → t ≡ taken_from true (turn left) → t ≡ taken_at b p
    here h = h ∙ taken_at_lem b p Turned e

    pub word_there : {t : Taken} → (w ≡ 0 → ⊥)
        → ((z : Bool) (s : Bits) → ended z s ≡ false → number_of (first_bits z 64 s) ≡ 2 ^ 64 - 1 - w
        → t ≡ taken_from z s)
        → t ≡ taken_at b p
    word_there n h = here (h true (turn left) (not-ended 64 left λ x. n (first ∙ x)) (turned_window left w first))

    module _ (zeros : w ≡ 0) where
      none : number_of (first_bits false 64 left) ≡ 0
      none = sym first ∙ zeros

      size : length left ≡ 96 - p.used
      size = rw (length-drop, whole)

      pub end_there : 32 ≤ p.used → Ok None ≡ taken_at b p
      end_there l = here (end_turned 64 left (omega (arith, size)) none)

      module _ {v : ℕ} (second : v ≡ window_at b (p.used + 64)) where
        next : v ≡ number_of (first_bits false 64 (drop 64 left))
        next = rw drop-drop second

        pub long_there : (v ≡ 0 → ⊥) → Err OutOfRange ≡ taken_at b p
        long_there n = here (long_turned left none (λ x. n (next ∙ x)))

        pub end_behind : v ≡ 0 → Ok None ≡ taken_at b p
        end_behind h = here (end_in_two left (omega (arith, size)) none (sym next ∙ h))
