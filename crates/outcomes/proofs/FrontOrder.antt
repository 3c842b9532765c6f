-- Two strings stand as their first bits do, as numbers; where these are equal, as what is left does.
use Rattle.std.specs.Prelude.{◌≡◌, refl, true, false, [], ◌∷◌, ℕ, zero, suc, ◌+◌, ◌^◌, ◌<◌, drop}
use Rattle.std.proofs.Common.{sym, ◌∙◌, arith}
use Rattle.std.proofs.Math.Decide.{dec_lt}
use Rattle.std.proofs.Math.Seq.{drop-nil}
use Rattle.bits.specs.Strings.{Bits}
use Rattle.bits.specs.Binary.{number_from, number_of, first_bits}
use Rattle.bits.proofs.Numbers.{number_from_lem}
use Rattle.bits.proofs.Pieces.{length-first}
use Rattle.bits.proofs.Sums.{first-lt}
use Rattle.outcomes.specs.Comparing.{before, after, standing}
use Rattle.outcomes.proofs.Standings.{decided, decided-before, decided-after, decided-same}

-- what both are larger by doesn't matter
decided-more : (p a b r : ℕ) → decided (p + a) (p + b) r ≡ decided a b r
decided-more p a b r = by_size (dec_lt a b) (dec_lt b a)
  where
    by_size : Dec (a < b) → Dec (b < a) → decided (p + a) (p + b) r ≡ decided a b r
    by_size (yes l) m = decided-before (p + a) (p + b) r (omega arith) ∙ sym (decided-before a b r l)
    by_size (no l) (yes m) = decided-after (p + a) (p + b) r (omega arith) ∙ sym (decided-after a b r m)
    by_size (no l) (no m) =
        decided-same (p + a) (p + b) r (omega arith) ∙ sym (decided-same a b r (omega arith))

-- the first m bits of a string as a number, and with a 1 in front
abbrev pub front : ℕ → Bits → ℕ
front m s = number_of (first_bits false m s)

front-led : (m : ℕ) (s : Bits) → number_from 1 (first_bits false m s) ≡ 2 ^ m + front m s
front-led m s = rw (number_from_lem 1 (first_bits false m s), length-first) (omega arith)

one_after : (m : ℕ) (s t : Bits) (r : ℕ) → decided (number_from 1 (first_bits false m s)) (front m t) r ≡ after
one_after m s t r = decided-after _ (front m t) r (omega (arith, front-led m s, first-lt false m t))

one_before : (m : ℕ) (s t : Bits) (r : ℕ) → decided (front m s) (number_from 1 (first_bits false m t)) r ≡ before
one_before m s t r = decided-before (front m s) _ r (omega (arith, front-led m t, first-lt false m s))

-- fronts of two strings decide, as numbers, and where these are equal what is left
pub standing-front : (m : ℕ) (s t : Bits)
    → standing s t ≡ decided (front m s) (front m t) (standing (drop m s) (drop m t))
unfolding standing
standing-front zero s t = refl
standing-front (suc m) [] [] = rw (drop-nil m) at (standing-front m [] [])
standing-front (suc m) [] (false ∷ t) = rw (drop-nil m) at (standing-front m [] t)
standing-front (suc m) [] (true ∷ t) = sym (one_before m [] t _)
standing-front (suc m) (false ∷ s) [] = rw (drop-nil m) at (standing-front m s [])
standing-front (suc m) (true ∷ s) [] = sym (one_after m s [] _)
standing-front (suc m) (false ∷ s) (false ∷ t) = standing-front m s t
standing-front (suc m) (false ∷ s) (true ∷ t) = sym (one_before m s t _)
standing-front (suc m) (true ∷ s) (false ∷ t) = sym (one_after m s t _)
standing-front (suc m) (true ∷ s) (true ∷ t) =
    standing-front m s t ∙ rw (front-led m s, front-led m t) (sym (decided-more (2 ^ m) (front m s) (front m t) _))
