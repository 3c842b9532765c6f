-- Euclid's algorithm in two states that alternate, the way the code goes. Before a word (false) p is divided by q.
-- Before a turned word (true) p-1 is, so that at least 1 is left of p and a word follows; with q = 0 it has ended. It
-- gives the even-ended form with no special case for its last quotient.
use Rattle.std.specs.Prelude.{◌≡◌, refl, Bool, true, false, cond, ◌⊎◌, List, [], ◌∷◌, ℕ, zero, suc, ◌+◌, ◌*◌, ◌-◌, ◌/◌, ◌%◌, ◌≤◌, ◌<◌}
use Rattle.std.proofs.Common.{sym, ◌∙◌, ap, inl, inr, div-add-mod', mod-lt, le-div_iff_mul-le, eq-zero-or-pos, sub-one, arith}
use Rattle.std.proofs.Math.Decide.{dec_lt}
use Rattle.fractions.specs.Fractions.{usual, gcd, even_ended, form_of, Quotients, EvenEnded}
use Rattle.fractions.proofs.Euclid.{quotient_unique, usual-end, usual-step, gcd-step}
use Rattle.fractions.specs.TwoStates.{alternate_from, alternate}

-- the steps that may be left
abbrev left : Bool → ℕ → ℕ
left z q = 2 * q + cond z 1 0

alternate-ended : (f : ℕ) (z : Bool) (p : ℕ) → alternate_from f z p 0 ≡ []
unfolding alternate_from
alternate-ended zero z p = refl
alternate-ended (suc f) z p = refl

module _ (q : ℕ) where
  turned_left : (p : ℕ) → 2 * ((p - 1) % suc q + 1) ≤ 2 * suc q
  turned_left p = omega (arith, mod-lt (p - 1) {m = suc q} (omega arith))

  word-left : (p : ℕ) → 2 * (p % suc q) + 1 < 2 * suc q
  word-left p = omega (arith, mod-lt p {m = suc q} (omega arith))

-- enough steps give the same
alternate_enough : (f g : ℕ) (z : Bool) (p q : ℕ) → left z q ≤ f → left z q ≤ g
    → alternate_from f z p q ≡ alternate_from g z p q
unfolding alternate_from
alternate_enough zero g z p zero l m = sym (alternate-ended g z p)
alternate_enough zero g z p (suc q) l m = absurd (omega arith)
alternate_enough (suc f) g z p zero l m = sym (alternate-ended g z p)
alternate_enough (suc f) zero z p (suc q) l m = absurd (omega arith)
alternate_enough (suc f) (suc g) true p (suc q) l m =
    ap {B = List ℕ} (λ t. (p - 1) / suc q ∷ t)
    (alternate_enough f g false (suc q) ((p - 1) % suc q + 1)
    (omega (arith, turned_left q p)) (omega (arith, turned_left q p)))
alternate_enough (suc f) (suc g) false p (suc q) l m =
    ap {B = List ℕ} (λ t. p / suc q ∷ t)
    (alternate_enough f g true (suc q) (p % suc q) (omega (arith, word-left q p)) (omega (arith, word-left q p)))

pub alternate-end : (z : Bool) (p : ℕ) → alternate z p 0 ≡ []
unfolding alternate
alternate-end z p = alternate-ended (suc (2 * 0)) z p

-- a step before a word, at the quotient b and the remainder r
pub alternate-word : (p q b r : ℕ) → p ≡ b * q + r → r < q → alternate false p q ≡ b ∷ alternate true q r
unfolding alternate alternate_from
alternate-word p zero b r e h = absurd (omega arith)
alternate-word p (suc q) b r e h =
    let (d, m) = quotient_unique p b (suc q) r e h in
    rw (d, m)
    (ap {B = List ℕ} (λ t. b ∷ t)
    (alternate_enough (2 * suc q) (suc (2 * r)) true (suc q) r (omega arith) (omega arith)))

-- and before a turned word
pub alternate_turned : (p q b r : ℕ) → p ≡ b * q + r → 1 ≤ r → r ≤ q → alternate true p q ≡ b ∷ alternate false q r
unfolding alternate alternate_from
alternate_turned p zero b r e k h = absurd (omega arith)
alternate_turned p (suc q) b r e k h =
    let (d, m) = quotient_unique (p - 1) b (suc q) (r - 1) (omega arith) (omega arith) in
    let n : r - 1 + 1 ≡ r = omega arith in
    rw (d, m, n)
    (ap {B = List ℕ} (λ t. b ∷ t)
    (alternate_enough (2 * suc q) (suc (2 * r)) false (suc q) r (omega arith) (omega arith)))

-- where the usual form ends at an odd index, the turned state leaves 1 for a word
last_split : (q r b : ℕ) → 1 ≤ r → q ≡ b * r + 0 → r < q → (b - 1) ∷ 1 ∷ [] ≡ alternate true q r
last_split q r zero h e k = absurd (omega arith)
last_split q r (suc b) h e k =
    rw (
      alternate_turned q r b r (omega arith) h (omega arith),
      alternate-word r r 1 0 (omega arith) h,
      alternate-end,
      sub-one,
    )

-- the last divisor stays in the turned state too, where the remainder may be the divisor
pub gcd_turned : (p q b r : ℕ) → p ≡ b * q + r → 1 ≤ r → r ≤ q → gcd p q ≡ gcd q r
gcd_turned p q b r e k h = by_size (dec_lt r q)
  where
    by_size : Dec (r < q) → gcd p q ≡ gcd q r
    by_size (yes l) = gcd-step p q b r e l
    by_size (no l) =
        let same : r ≡ q = omega arith in
        gcd-step p q (b + 1) 0 (omega arith) (omega arith)
        ∙ sym (rw same (gcd-step q q 1 0 (omega arith) (omega arith)))

-- the even-ended form of what follows a quotient a at an even index, where q over r is still to be expanded
abbrev Meet : ℕ → ℕ → ℕ → Type 0
Meet a q r = even_ended (a ∷ usual q r) ≡ a ∷ alternate true q r

meet-end : (a q r : ℕ) → r ≡ 0 → Meet a q r
meet-end a q r e = rw (e, usual-end, alternate-end)

meet_split : (a q r b : ℕ) → q ≡ b * r + 0 → 1 ≤ r → r < q → Meet a q r
meet_split a q r b e h k =
    rw (usual-step q r b 0 e h, usual-end) (ap {B = List ℕ} (λ t. a ∷ t) (last_split q r b h e k))

meet_on : (a q r b s c t : ℕ) → q ≡ b * r + s → r ≡ c * s + t → s < r → t < s → Meet c s t → Meet a q r
meet_on a q r b s c t e d h k again =
    rw (
      usual-step q r b s e h,
      usual-step r s c t d k,
      alternate_turned q r b s e (omega arith) (omega arith),
      alternate-word r s c t d k,
    )
    (ap {B = List ℕ} (λ u. a ∷ b ∷ u) again)

meet : (n a q r : ℕ) → r ≤ n → r < q → Meet a q r
meet zero a q r i h = meet-end a q r (omega arith)
meet (suc n) a q r i h =
    by_remainder (eq-zero-or-pos r) (eq-zero-or-pos (q % r)) (meet n (r / (q % r)) (q % r) (r % (q % r)))
  where
    by_remainder : (r ≡ 0) ⊎ (0 < r) → (q % r ≡ 0) ⊎ (0 < q % r)
        → (r % (q % r) ≤ n → r % (q % r) < q % r → Meet (r / (q % r)) (q % r) (r % (q % r))) → Meet a q r
    by_remainder (inl e) d again = meet-end a q r e
    by_remainder (inr k) (inl e) again = meet_split a q r (q / r) (omega (arith, div-add-mod' q r)) k h
    by_remainder (inr k) (inr j) again =
        let u : q % r < r = mod-lt q k in
        let v : r % (q % r) < q % r = mod-lt r j in
        meet_on a q r (q / r) (q % r) (r / (q % r)) (r % (q % r))
        (sym (div-add-mod' q r)) (sym (div-add-mod' r (q % r))) u v (again (omega arith) v)

-- the two states give the even-ended form
pub alternate-form : (p q : ℕ) → 1 ≤ q → form_of p q ≡ alternate false p q
unfolding form_of
alternate-form p q h =
    let r : p % q < q = mod-lt p h in
    rw (
      usual-step p q (p / q) (p % q) (sym (div-add-mod' p q)) r,
      alternate-word p q (p / q) (p % q) (sym (div-add-mod' p q)) r,
    )
    (meet q (p / q) q (p % q) (omega arith) r)

-- a ratio above 1 before a turned word, of at least 1 before a word
abbrev Due : Bool → ℕ → ℕ → Type 0
Due true p q = q < p
Due false p q = (1 ≤ q) × (q ≤ p)

-- what the two states give has quotients of at least 1, and ends after a word
alternate-quotients : (f : ℕ) (z : Bool) (p q : ℕ) → Due z p q → left z q ≤ f → Quotients z (alternate_from f z p q)
unfolding alternate_from
alternate-quotients zero true p q d l = refl
alternate-quotients zero false p q d l = absurd (omega arith)
alternate-quotients (suc f) true p zero d l = refl
alternate-quotients (suc f) false p zero d l = absurd (omega arith)
alternate-quotients (suc f) true p (suc q) d l = (
  (le-div_iff_mul-le {k = suc q} {x = 1} {y = p - 1} (omega arith)).1 (omega arith),
  alternate-quotients f false (suc q) ((p - 1) % suc q + 1) (omega arith, omega (arith, turned_left q p))
      (omega (arith, turned_left q p)),
)
alternate-quotients (suc f) false p (suc q) d l = (
  (le-div_iff_mul-le {k = suc q} {x = 1} {y = p} (omega arith)).1 (omega arith),
  alternate-quotients f true (suc q) (p % suc q) (mod-lt p (omega arith)) (omega (arith, word-left q p)),
)

pub form-even_ended : (p q : ℕ) → 1 ≤ q → EvenEnded (form_of p q)
unfolding alternate
form-even_ended p q h =
    let r : p % q < q = mod-lt p h in
    rw (alternate-form p q h, alternate-word p q (p / q) (p % q) (sym (div-add-mod' p q)) r)
    (alternate-quotients (suc (2 * (p % q))) true q (p % q) r (omega arith))
