-- Dropping the zeros after the last 1: the infinite string stays, and strings that are the same become equal.
use Rattle.std.specs.Prelude.{◌≡◌, refl, true, false, ◌⊎◌, [], ◌∷◌, ◌++◌, zero, suc, ◌≤◌, length, take}
use Rattle.std.proofs.Common.{sym, ◌∙◌, ap, true≢false, inl, inr, suc-le-suc, arith, length-append}
use Rattle.std.proofs.lemmas.Bool.{false≢true}
use Rattle.bits.specs.Strings.{Bits, Same, ◌≺◌, trimmed, behind_zero, closed}
use Rattle.bits.proofs.Order.{same-append, before-same}

same-behind_zero : (s : Bits) → Same false (behind_zero s) (false ∷ s)
same-behind_zero [] zero = refl
same-behind_zero [] (suc i) = refl
same-behind_zero (b ∷ s) i = refl

-- a zero at the end changes nothing
pub same-zero : (s : Bits) → Same false (s ++ (false ∷ [])) s
same-zero [] zero = refl
same-zero [] (suc i) = refl
same-zero (b ∷ s) i = same-append false (b ∷ []) (s ++ (false ∷ [])) s (same-zero s) i

pub same-trimmed : (s : Bits) → Same false (trimmed s) s
same-trimmed [] i = refl
same-trimmed (true ∷ s) i = same-append false (true ∷ []) (trimmed s) s (same-trimmed s) i
same-trimmed (false ∷ s) i =
    same-behind_zero (trimmed s) i ∙ same-append false (false ∷ []) (trimmed s) s (same-trimmed s) i

pub trimmed-same : (s t : Bits) → Same false s t → trimmed s ≡ trimmed t
trimmed-same [] [] e = refl
trimmed-same [] (true ∷ t) e = absurd (false≢true (e 0))
trimmed-same [] (false ∷ t) e = ap behind_zero (trimmed-same [] t (λ i. e (suc i)))
trimmed-same (true ∷ s) [] e = absurd (true≢false (e 0))
trimmed-same (false ∷ s) [] e = ap behind_zero (trimmed-same s [] (λ i. e (suc i)))
trimmed-same (true ∷ s) (true ∷ t) e = ap {B = Bits} (λ r. true ∷ r) (trimmed-same s t (λ i. e (suc i)))
trimmed-same (true ∷ s) (false ∷ t) e = absurd (true≢false (e 0))
trimmed-same (false ∷ s) (true ∷ t) e = absurd (false≢true (e 0))
trimmed-same (false ∷ s) (false ∷ t) e = ap behind_zero (trimmed-same s t (λ i. e (suc i)))

behind_zero_ends : (s : Bits) → behind_zero (s ++ (true ∷ [])) ≡ false ∷ (s ++ (true ∷ []))
behind_zero_ends [] = refl
behind_zero_ends (b ∷ s) = refl

-- empty, or ending in 1: there is nothing to drop
abbrev pub Tidy : Bits → Type 0
Tidy s = (s ≡ []) ⊎ ((t : Bits) × (s ≡ t ++ (true ∷ [])))

pub tidy-trimmed : (s : Bits) → Tidy (trimmed s)
tidy-trimmed [] = inl refl
tidy-trimmed (true ∷ s) = after_one (tidy-trimmed s)
  where
    after_one : Tidy (trimmed s) → Tidy (true ∷ trimmed s)
    after_one (inl e) = inr ([], ap {B = Bits} (λ r. true ∷ r) e)
    after_one (inr (t, e)) = inr (true ∷ t, ap {B = Bits} (λ r. true ∷ r) e)
tidy-trimmed (false ∷ s) = after-zero (tidy-trimmed s)
  where
    after-zero : Tidy (trimmed s) → Tidy (behind_zero (trimmed s))
    after-zero (inl e) = inl (ap behind_zero e)
    after-zero (inr (t, e)) = inr (false ∷ t, ap behind_zero e ∙ behind_zero_ends t)

pub trimmed-ended : (s : Bits) → trimmed (s ++ (true ∷ [])) ≡ s ++ (true ∷ [])
trimmed-ended [] = refl
trimmed-ended (true ∷ s) = ap {B = Bits} (λ r. true ∷ r) (trimmed-ended s)
trimmed-ended (false ∷ s) = ap behind_zero (trimmed-ended s) ∙ behind_zero_ends s

pub closed-same : (s : Bits) → Same false (closed s) s
closed-same [] = λ i. refl
closed-same (b ∷ s) = same-append false (b ∷ []) (trimmed s) s (same-trimmed s)

-- zeros at the end have no part in the order
pub closed-order : (s t : Bits) → s ≺ t → closed s ≺ closed t
closed-order s t =
    before-same false s (closed s) t (closed t) (λ i. sym (closed-same s i)) (λ i. sym (closed-same t i))

behind_zero-length : (s : Bits) → length (behind_zero s) ≤ suc (length s)
behind_zero-length [] = omega arith
behind_zero-length (b ∷ s) = omega arith

trimmed-length : (s : Bits) → length (trimmed s) ≤ length s
trimmed-length [] = omega arith
trimmed-length (true ∷ s) = suc-le-suc (trimmed-length s)
trimmed-length (false ∷ s) = omega (arith, behind_zero-length (trimmed s), trimmed-length s)

pub closed-length : (s : Bits) → length (closed s) ≤ length s
closed-length [] = omega arith
closed-length (b ∷ s) = omega (arith, trimmed-length s)

pub closed-some : (s : Bits) → 1 ≤ length s → 1 ≤ length (closed s)
closed-some [] h = h
closed-some (b ∷ s) h = omega arith

-- strings that are one infinite string are closed alike
pub closed_equal : (s t : Bits) → 1 ≤ length s → 1 ≤ length t → Same false s t → closed s ≡ closed t
closed_equal [] t h k e = absurd (omega arith)
closed_equal (b ∷ s) [] h k e = absurd (omega arith)
closed_equal (b ∷ s) (c ∷ t) h k e = λ i. e 0 i ∷ trimmed-same s t (λ j. e (suc j)) i

-- a string of at most one character stays
pub closed_short : (s : Bits) → length s ≤ 1 → closed s ≡ s
closed_short [] h = refl
closed_short (b ∷ []) h = refl
closed_short (b ∷ c ∷ s) h = absurd (omega arith)

-- a zero behind others is dropped
pub closed-zero : (s : Bits) → 1 ≤ length s → closed (s ++ (false ∷ [])) ≡ closed s
closed-zero s h = closed_equal (s ++ (false ∷ [])) s (rw length-append (omega arith)) h (same-zero s)

behind_zero-take : (r s : Bits) → r ≡ take (length r) s → behind_zero r ≡ take (length (behind_zero r)) (false ∷ s)
behind_zero-take [] s e = refl
behind_zero-take (b ∷ r) s e = ap {B = Bits} (λ t. false ∷ t) e

trimmed-take : (s : Bits) → trimmed s ≡ take (length (trimmed s)) s
trimmed-take [] = refl
trimmed-take (true ∷ s) = ap {B = Bits} (λ t. true ∷ t) (trimmed-take s)
trimmed-take (false ∷ s) = behind_zero-take (trimmed s) s (trimmed-take s)

-- what is dropped stands at the end: the rest is the first characters of the string
pub closed-take : (s : Bits) → closed s ≡ take (length (closed s)) s
closed-take [] = refl
closed-take (b ∷ s) = ap {B = Bits} (λ t. b ∷ t) (trimmed-take s)
