-- Repeated remainder: p and q are the last divisor times numerator and denominator of the quotients' value, which is
-- therefore p/q in lowest terms; and the even-ended form has the same value.
use Rattle.std.specs.Prelude.{◌≡◌, refl, List, [], ◌∷◌, ℕ, zero, suc, ◌+◌, ◌*◌, ◌-◌, ◌/◌, ◌%◌, ◌≤◌, ◌<◌}
use Rattle.std.proofs.Common.{sym, ◌∙◌, ap, div-add-mod', mod-lt, le-div_iff_mul-le, arith}
use Rattle.std.proofs.Math.Nat.{mul-div_right, mul-sub, eq-one_of_dvd-one}
use Rattle.std.proofs.Math.Arith.{digits_div, digits_mod}
use Rattle.fractions.specs.Fractions.{Ratio, ◌over◌, onto, value_of, Divided, led, divided_from, usual, gcd}
use Rattle.fractions.specs.Fractions.{lowest_terms, even_ended, form_of}

-- ratios whose numbers are equal
pub same-ratio : {n m d e : ℕ} → n ≡ m → d ≡ e → n over d ≡ m over e
same-ratio p q = λ i. p i over q i

pub quotient_unique : (x b q r : ℕ) → x ≡ b * q + r → r < q → (x / q ≡ b) × (x % q ≡ r)
quotient_unique x b q r e h = (rw e (digits_div b h), rw e (digits_mod b h))

-- enough steps give the same
divided_enough : (f g p q : ℕ) → q ≤ f → q ≤ g → divided_from f p q ≡ divided_from g p q
unfolding divided_from
divided_enough zero zero p q l m = refl
divided_enough zero (suc g) p zero l m = refl
divided_enough zero (suc g) p (suc q) l m = absurd (omega arith)
divided_enough (suc f) zero p zero l m = refl
divided_enough (suc f) zero p (suc q) l m = absurd (omega arith)
divided_enough (suc f) (suc g) p zero l m = refl
divided_enough (suc f) (suc g) p (suc q) l m =
    let r : p % suc q < suc q = mod-lt p (omega arith) in
    ap (led (p / suc q)) (divided_enough f g (suc q) (p % suc q) (omega arith) (omega arith))

-- one step, at the quotient b and the remainder r
divided-step : (p q b r : ℕ) → p ≡ b * q + r → r < q → divided_from q p q ≡ led b (divided_from r q r)
unfolding divided_from
divided-step p zero b r e h = absurd (omega arith)
divided-step p (suc q) b r e h =
    let (d, m) = quotient_unique p b (suc q) r e h in
    rw (d, m) (ap (led b) (divided_enough q r (suc q) r (omega arith) (omega arith)))

pub usual-end : (p : ℕ) → usual p 0 ≡ []
unfolding usual divided_from
usual-end p = refl

pub usual-step : (p q b r : ℕ) → p ≡ b * q + r → r < q → usual p q ≡ b ∷ usual q r
unfolding usual
usual-step p q b r e h = ap (λ (d : Divided). d.quotients) (divided-step p q b r e h)

pub gcd-end : (p : ℕ) → gcd p 0 ≡ p
unfolding gcd divided_from
gcd-end p = refl

pub gcd-step : (p q b r : ℕ) → p ≡ b * q + r → r < q → gcd p q ≡ gcd q r
unfolding gcd
gcd-step p q b r e h = ap (λ (d : Divided). d.divisor) (divided-step p q b r e h)

-- p/q is v, with g in both
pub record Scaled (g p q : ℕ) (v : Ratio) : Type 0 where
  pub positive : 1 ≤ g
  pub above : p ≡ g * v.num
  pub below : q ≡ g * v.den

pub scaled_cross : (g p q : ℕ) (v : Ratio) → Scaled g p q v → p * v.den ≡ v.num * q
scaled_cross g p q v s = omega (arith, ap (λ (x : ℕ). x * v.den) s.above, ap (λ (x : ℕ). v.num * x) s.below)

scaled-onto : (g p q a r : ℕ) (v : Ratio) → p ≡ a * q + r → Scaled g q r v → Scaled g p q (onto a v)
scaled-onto g p q a r v e s = record {
  positive = s.positive;
  above = omega (arith, ap (λ (x : ℕ). a * x) s.above);
  below = s.above;
}

divided-scaled : (f p q : ℕ) → 1 ≤ p + q → q ≤ f
    → Scaled (divided_from f p q).divisor p q (value_of (divided_from f p q).quotients)
unfolding divided_from
divided-scaled zero p q h l = record { positive = omega arith; above = omega arith; below = omega arith }
divided-scaled (suc f) p zero h l = record { positive = omega arith; above = omega arith; below = omega arith }
divided-scaled (suc f) p (suc q) h l =
    scaled-onto _ p (suc q) (p / suc q) (p % suc q) _ (sym (div-add-mod' p (suc q)))
    (divided-scaled f (suc q) (p % suc q) (omega arith) (omega (arith, mod-lt p {m = suc q} (omega arith))))

pub usual-scaled : (p q : ℕ) → 1 ≤ q → Scaled (gcd p q) p q (value_of (usual p q))
unfolding usual gcd
usual-scaled p q h = divided-scaled q p q (omega arith) (omega arith)

scaled-lowest : (p q : ℕ) (v : Ratio) → Scaled (gcd p q) p q v → v ≡ lowest_terms p q
unfolding lowest_terms
scaled-lowest p q v s =
    same-ratio (sym (mul-div_right v.num s.positive) ∙ ap (λ (x : ℕ). x / gcd p q) (sym s.above))
    (sym (mul-div_right v.den s.positive) ∙ ap (λ (x : ℕ). x / gcd p q) (sym s.below))

pub usual_value : (p q : ℕ) → 1 ≤ q → value_of (usual p q) ≡ lowest_terms p q
usual_value p q h = scaled-lowest p q (value_of (usual p q)) (usual-scaled p q h)

-- every quotient is at least 1
abbrev Positive : List ℕ → Type 0
Positive [] = Unit {0}
Positive (a ∷ l) = (1 ≤ a) × Positive l

quotients-positive : (f p q : ℕ) → q < p → Positive (divided_from f p q).quotients
unfolding divided_from
quotients-positive zero p q h = tt
quotients-positive (suc f) p zero h = tt
quotients-positive (suc f) p (suc q) h = (
  (le-div_iff_mul-le {k = suc q} {x = 1} {y = p} (omega arith)).1 (omega arith),
  quotients-positive f (suc q) (p % suc q) (mod-lt p (omega arith)),
)

even_ended-same : (a : ℕ) (l : List ℕ) → Positive l → value_of (even_ended (a ∷ l)) ≡ value_of (a ∷ l)
even_ended-same a [] h = refl
even_ended-same a (b ∷ []) (h, t) =
    let e : b - 1 + 1 ≡ b = omega arith in
    same-ratio (omega (arith, ap (λ (x : ℕ). a * x) e)) (omega arith)
even_ended-same a (b ∷ c ∷ l) (h, (k, t)) = ap (λ (v : Ratio). onto a (onto b v)) (even_ended-same c l t)

pub form_value : (p q : ℕ) → 1 ≤ q → value_of (form_of p q) ≡ lowest_terms p q
unfolding form_of usual divided_from
form_value p zero h = absurd (omega arith)
form_value p (suc q) h =
    even_ended-same (p / suc q) (divided_from q (suc q) (p % suc q)).quotients
    (quotients-positive q (suc q) (p % suc q) (mod-lt p (omega arith))) ∙ usual_value p (suc q) h

pub form-scaled : (p q : ℕ) → 1 ≤ q → Scaled (gcd p q) p q (value_of (form_of p q))
form-scaled p q h = rw (form_value, ← usual_value p q h) (usual-scaled p q h)

-- 1 alone divides both numerator and denominator of a value
value_coprime : (l : List ℕ) (c x y : ℕ) → (value_of l).num ≡ c * x → (value_of l).den ≡ c * y → c ≡ 1
value_coprime [] c x y e d = eq-one_of_dvd-one ∣ (x, e) ∣₁
value_coprime (a ∷ l) c x y e d =
    value_coprime l c y (x - a * y) d (omega (arith, mul-sub c x (a * y), ap (λ (n : ℕ). a * n) d))

-- lowest terms are of the same value, and 1 alone divides both
pub lowest-same : (p q : ℕ) → 1 ≤ q → p * (lowest_terms p q).den ≡ (lowest_terms p q).num * q
lowest-same p q h = rw (← usual_value p q h) (scaled_cross (gcd p q) p q (value_of (usual p q)) (usual-scaled p q h))

pub lowest_coprime : (p q : ℕ) → 1 ≤ q → (c x y : ℕ)
    → (lowest_terms p q).num ≡ c * x → (lowest_terms p q).den ≡ c * y → c ≡ 1
lowest_coprime p q h = rw (← usual_value p q h) (value_coprime (usual p q))
