-- Which lines aren't malformed: exactly a numeral, a slash and a numeral; and these are what is read.
use Rattle.std.specs.Prelude.{◌≡◌, refl, Bool, true, false, cond, List, [], ◌∷◌, ◌++◌, ℕ, ◌<◌, eqb, leb, ltb, length}
use Rattle.std.proofs.Common.{ap, arith, eqb-true, ltb-true, leb-true, ne_eqb}
use mathlib.Mathlib.Data.Bool.Basic.{and-eq-true-eq-eq-true-and-eq-true as both_true}
use Rattle.std.proofs.lemmas.Bool.{not-false}
use Rattle.numerals.specs.Numerals.{is_digit, all_digits, value_of}
use Rattle.outcomes.specs.Typing.{before_slash, after_slash, size_within, is_numeral, numerator_of}
use Rattle.outcomes.specs.Typing.{denominator_of, IsRatio, malformed}

-- a digit isn't the slash
digit_no_slash : (c : ℕ) → is_digit c ≡ true → eqb c 47 ≡ false
digit_no_slash c h = ne_eqb c 47 (λ e. omega (arith, leb-true 48 c ((both_true (leb 48 c) (leb c 57)).0 h).0))

-- behind digits the first slash is the one that was put there
slash_found : (s t : List ℕ) → all_digits s ≡ true
    → (before_slash (s ++ (47 ∷ t)) ≡ s) × (after_slash (s ++ (47 ∷ t)) ≡ t)
unfolding before_slash after_slash
slash_found [] t h = (refl, refl)
slash_found (c ∷ s) t h =
    let (digit, digits) = (both_true (is_digit c) (all_digits s)).0 h in
    let (before, after) = slash_found s t digits in
    rw (digit_no_slash c digit) (ap (λ x. c ∷ x) before, after)

-- where anything stands behind a slash, the line is put together again
abbrev Joined : List ℕ → Type 0
Joined l = 0 < length (after_slash l) → l ≡ before_slash l ++ (47 ∷ after_slash l)

joined-step : (c : ℕ) (l : List ℕ) (b : Bool) → eqb c 47 ≡ b → Joined l → 0 < length (cond b l (after_slash l))
    → c ∷ l ≡ cond b [] (c ∷ before_slash l) ++ (47 ∷ cond b l (after_slash l))
joined-step c l true e more some = rw (eqb-true c 47 e)
joined-step c l false e more some = ap (λ x. c ∷ x) (more some)

slash_between : (l : List ℕ) → Joined l
unfolding before_slash after_slash
slash_between [] h = absurd (omega (arith, h))
slash_between (c ∷ l) h = joined-step c l (eqb c 47) refl (slash_between l) h

-- such a line isn't refused by 10, and its numerals are what is read
pub ratio-accepted : (l s t : List ℕ) → IsRatio l s t
    → ((malformed l).1 ≡ false) × (numerator_of l ≡ value_of s) × (denominator_of l ≡ value_of t)
ratio-accepted l s t r =
    let (before, after) = slash_found s t ((both_true (all_digits s) (size_within s)).0 r.first).0 in
    rw (r.line, before, after, r.first, r.second) (refl, refl, refl)

-- and no other isn't
pub accepted-ratio : (l : List ℕ) → (malformed l).1 ≡ false → IsRatio l (before_slash l) (after_slash l)
accepted-ratio l h =
    let (first, second) = (both_true (is_numeral (before_slash l)) (is_numeral (after_slash l))).0 (not-false _ h) in
    let t = after_slash l in
    let size = ((both_true (all_digits t) (size_within t)).0 second).1 in
    let some = ltb-true 0 (length t) ((both_true (ltb 0 (length t)) _).0 size).0 in
    record { line = slash_between l some; first = first; second = second }
