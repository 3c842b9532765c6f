-- Comparing follows the order of the ratios by cross products, and so do keys over any family.
use Rattle.std.specs.Prelude.{◌≡◌, refl, Bool, true, false, cond, List, [], ◌∷◌, ℕ, ◌*◌, ◌≤◌, ◌<◌, ltb}
use Rattle.std.proofs.Common.{sym, ◌∙◌, ap, arith, lt-ltb, le-ltb}
use Rattle.bits.specs.Strings.{Bits, Same, ◌≺◌}
use Rattle.bits.specs.Texts.{bits_of_text}
use Rattle.bits.proofs.Order.{same-append, before-first, before-cons, before-same}
use Rattle.bits.proofs.Trim.{same-zero}
use Rattle.families.specs.Families.{Family}
use Rattle.families.proofs.Published.{words1983}
use Rattle.fractions.specs.Fractions.{◌over◌}
use Rattle.keys.specs.Keys.{key_of, Canonical, value_of_key}
use Rattle.keys.proofs.Back.{canonical-same, key-canonical}
use Rattle.keys.proofs.Order.{value_order, key-order, key_equal}
use Rattle.outcomes.specs.Outcomes.{gives}
use Rattle.outcomes.specs.Refusals.{key_refusals}
use Rattle.outcomes.specs.Laws.{Clear}
use Rattle.outcomes.proofs.Laws.{clear-called}
use Rattle.outcomes.specs.Comparing.{before, same, after, number_standing, standing, compare_text}
use Rattle.outcomes.proofs.TextKeys.{clear-canonical, judged-first}

-- n says how s and t stand
pub data Says (s t : Bits) (n : ℕ) : Type 0 where
  says_before : n ≡ before → s ≺ t → Says s t n
  says_same : n ≡ same → Same false s t → Says s t n
  says_after : n ≡ after → t ≺ s → Says s t n

-- a common first bit has no part in it
says-more : (b : Bool) {s t u v : Bits} {n : ℕ} → Same false (b ∷ s) u → Same false (b ∷ t) v → Says s t n → Says u v n
says-more b {s} {t} {u} {v} e f (says_before m h) =
    says_before m (before-same false (b ∷ s) u (b ∷ t) v e f (before-cons false b s t h))
says-more b {s} {t} e f (says_same m h) =
    says_same m (λ i. sym (e i) ∙ same-append false (b ∷ []) s t h i ∙ f i)
says-more b {s} {t} {u} {v} e f (says_after m h) =
    says_after m (before-same false (b ∷ t) v (b ∷ s) u f e (before-cons false b t s h))

pub says-standing : (s t : Bits) → Says s t (standing s t)
unfolding standing
says-standing [] [] = says_same refl (λ i. refl)
says-standing [] (true ∷ t) = says_before refl (before-first false [] (true ∷ t) refl refl)
says-standing [] (false ∷ t) = says-more false (same-zero []) (λ i. refl) (says-standing [] t)
says-standing (true ∷ s) [] = says_after refl (before-first false [] (true ∷ s) refl refl)
says-standing (false ∷ s) [] = says-more false (λ i. refl) (same-zero []) (says-standing s [])
says-standing (false ∷ s) (false ∷ t) = says-more false (λ i. refl) (λ i. refl) (says-standing s t)
says-standing (false ∷ s) (true ∷ t) = says_before refl (before-first false (false ∷ s) (true ∷ t) refl refl)
says-standing (true ∷ s) (false ∷ t) = says_after refl (before-first false (false ∷ t) (true ∷ s) refl refl)
says-standing (true ∷ s) (true ∷ t) = says-more true (λ i. refl) (λ i. refl) (says-standing s t)

-- by two numbers, and by r where they are equal; how two numbers stand is this with `same` for r
abbrev pub decided : ℕ → ℕ → ℕ → ℕ
decided x y r = cond (ltb x y) before (cond (ltb y x) after r)

pub decided-before : (x y r : ℕ) → x < y → decided x y r ≡ before
decided-before x y r h = rw (lt-ltb x y h)

pub decided-after : (x y r : ℕ) → y < x → decided x y r ≡ after
decided-after x y r h = rw (le-ltb x y (omega arith), lt-ltb y x h)

pub decided-same : (x y r : ℕ) → x ≡ y → decided x y r ≡ r
decided-same x y r h = rw (le-ltb x y (omega arith), le-ltb y x (omega arith))

-- strings stand as two numbers do
standing_as : (j k : Bits) (x y : ℕ) → (j ≺ k → x < y) → (Same false j k → x ≡ y) → (k ≺ j → y < x)
    → standing j k ≡ number_standing x y
standing_as j k x y less equal more = by_case (says-standing j k)
  where
    by_case : Says j k (standing j k) → standing j k ≡ number_standing x y
    by_case (says_before n h) = n ∙ sym (decided-before x y same (less h))
    by_case (says_same n h) = n ∙ sym (decided-same x y same (equal h))
    by_case (says_after n h) = n ∙ sym (decided-after x y same (more h))

-- canonical keys stand as the cross products of their values do
cross_standing : (j k : Bits) → Canonical j → Canonical k
    → let u = value_of_key words1983 j in let v = value_of_key words1983 k in
    standing j k ≡ number_standing (u.num * v.den) (v.num * u.den)
cross_standing j k c d =
    standing_as j k _ _ (value_order words1983 j k c d).0
    (λ h. rw (canonical-same j k c d h))
    (value_order words1983 k j d c).0

-- and keys of ratios as the ratios do, over any family
pub key-standing : (F : Family) (p q r s : ℕ) → 1 ≤ q → 1 ≤ s
    → standing (key_of F p q) (key_of F r s) ≡ number_standing (p * s) (r * q)
key-standing F p q r s f g =
    standing_as (key_of F p q) (key_of F r s) _ _ (key-order F p q r s f g).0
    (λ h. (key_equal F p q r s f g).0 (canonical-same _ _ (key-canonical F p q f) (key-canonical F r s g) h))
    (key-order F r s p q g f).0

pub text-compared : (j k : List ℕ) (p q r s : ℕ) → Clear (key_refusals j (key_refusals k []))
    → value_of_key words1983 (bits_of_text j) ≡ p over q → value_of_key words1983 (bits_of_text k) ≡ r over s
    → compare_text j k ≡ gives (number_standing (p * s) (r * q) ∷ []) []
unfolding compare_text
text-compared j k p q r s clear v w =
    let (first, second) = judged-first j (key_refusals k []) clear in
    clear-called (key_refusals j (key_refusals k [])) (standing (bits_of_text j) (bits_of_text k) ∷ []) [] [] clear
    ∙ ap (λ (n : ℕ). gives (n ∷ []) [])
    (rw (v, w) at (cross_standing (bits_of_text j) (bits_of_text k) (clear-canonical j first).0
    (clear-canonical k second).0))
