-- Text keys and canonical keys are the same: a text that no fault is found in is the text of its bits, which are a
-- canonical key; and the text of a canonical key of at most 96 characters has no fault. Then a call's other refusals
-- decide.
use Rattle.std.specs.Prelude.{◌≡◌, refl, Bool, true, false, cond, ◌||◌, List, [], ◌∷◌, ◌++◌, ℕ, suc, ◌+◌, ◌-◌, ◌≤◌, eqb, length, get_or}
use Rattle.std.proofs.Common.{sym, ◌∙◌, ap, subst, true≢false, inl, inr, append-nil, sub-one, arith, le-ltb, lt-ltb, ltb-false, ne_eqb, eqb-true}
use Rattle.std.proofs.Math.Bool.{and-false}
use Rattle.std.proofs.lemmas.List.{length-map}
use Rattle.bits.specs.Strings.{Bits}
use Rattle.bits.specs.Texts.{char_of, text_of, bits_of_text}
use Rattle.keys.specs.Keys.{Canonical}
use Rattle.keys.proofs.Back.{canonical-some}
use Rattle.outcomes.specs.Outcomes.{Refusal, called}
use Rattle.outcomes.specs.Refusals.{first_strange, open_key, key_refusals}
use Rattle.outcomes.specs.Laws.{Clear}

pub bits_of_text_lem : (s : Bits) → bits_of_text (text_of s) ≡ s
bits_of_text_lem [] = refl
bits_of_text_lem (true ∷ s) = ap {B = Bits} (λ r. true ∷ r) (bits_of_text_lem s)
bits_of_text_lem (false ∷ s) = ap {B = Bits} (λ r. false ∷ r) (bits_of_text_lem s)

-- a text of bits is passed: the first strange character is found behind it
pub text-passed : (s : Bits) (k : List ℕ) → first_strange (text_of s ++ k) ≡ length s + first_strange k
unfolding first_strange
text-passed [] k = omega arith
text-passed (true ∷ s) k = omega (arith, text-passed s k)
text-passed (false ∷ s) k = omega (arith, text-passed s k)

-- no character of it is strange
pub text-plain : (s : Bits) → first_strange (text_of s) ≡ length s
unfolding first_strange
text-plain s = omega (arith, rw append-nil at (text-passed s []))

-- a text with no strange character is the text of its bits
text_of-bits : (k : List ℕ) → length k ≤ first_strange k → text_of (bits_of_text k) ≡ k
unfolding first_strange
text_of-bits [] h = refl
text_of-bits (c ∷ k) h =
    let (first, rest) = by_tests (eqb c 48) (eqb c 49) refl refl h in
    λ i. first i ∷ text_of-bits k rest i
  where
    by_tests : (a b : Bool) → eqb c 48 ≡ a → eqb c 49 ≡ b → suc (length k) ≤ cond (a || b) (suc (first_strange k)) 0
        → (char_of (eqb c 49) ≡ c) × (length k ≤ first_strange k)
    by_tests true true e f l = (rw f (sym (eqb-true c 49 f)), omega arith)
    by_tests false true e f l = (rw f (sym (eqb-true c 49 f)), omega arith)
    by_tests true false e f l = (rw f (sym (eqb-true c 48 e)), omega arith)
    by_tests false false e f l = absurd (omega arith)

-- the last character of a text
abbrev last : List ℕ → ℕ
last k = get_or k (length k - 1) 48

last-more : (a b : Bool) (s : Bits) → last (text_of (a ∷ b ∷ s)) ≡ last (text_of (b ∷ s))
last-more a b s = rw (sub-one, sub-one)

last_one : (s : Bits) → last (text_of (s ++ (true ∷ []))) ≡ 49
last_one [] = refl
last_one (a ∷ []) = refl
last_one (a ∷ b ∷ s) = last-more a b (s ++ (true ∷ [])) ∙ last_one (b ∷ s)

one_last : (b : Bool) (s : Bits) → eqb (last (text_of (b ∷ s))) 48 ≡ false → (t : Bits) × (b ∷ s ≡ t ++ (true ∷ []))
one_last true [] e = ([], refl)
one_last false [] e = absurd (true≢false e)
one_last a (b ∷ s) e =
    let (t, f) = one_last b s (rw last-more at e) in (a ∷ t, ap {B = Bits} (λ r. a ∷ r) f)

-- the last character of a canonical key is 1, unless it is the only one
closed-last : (s : Bits) → Canonical s → (open_key (text_of s)).1 ≡ false
closed-last s (inl e) = rw e
closed-last s (inr (t, e)) = rw (e, last_one t, and-false)

-- the text of a canonical key
pub text-clear : (s : Bits) → Canonical s → length s ≤ 96 → Clear (key_refusals (text_of s) [])
text-clear s c h =
    let size : length (text_of s) ≡ length s = length-map s char_of in (
      ne_eqb (length (text_of s)) 0 (λ e. omega (arith, canonical-some s c)),
      (
        le-ltb 96 (length (text_of s)) (omega arith),
        (
          le-ltb (first_strange (text_of s)) (length (text_of s)) (omega (arith, text-plain s)),
          (closed-last s c, tt),
        ),
      ),
    )

last-canonical : (s : Bits) → Clear (key_refusals (text_of s) []) → Canonical s
last-canonical [] (e, r) = absurd (true≢false e)
last-canonical (false ∷ []) c = inl refl
last-canonical (true ∷ []) c = inr ([], refl)
last-canonical (a ∷ b ∷ s) (e, (f, (g, (h, u)))) =
    inr (one_last a (b ∷ s) (rw (lt-ltb 1 (length (text_of (a ∷ b ∷ s))) (omega arith)) at h))

-- the bits of a text with no fault
pub clear-canonical : (k : List ℕ) → Clear (key_refusals k [])
    → Canonical (bits_of_text k) × ((length k ≤ 96) × (text_of (bits_of_text k) ≡ k))
clear-canonical k (e, (f, (g, r))) =
    let text = text_of-bits k (ltb-false (first_strange k) (length k) g) in (
      last-canonical (bits_of_text k) (subst (λ (l : List ℕ). Clear (key_refusals l [])) (sym text) (e, (f, (g, r)))),
      (ltb-false 96 (length k) f, text),
    )

pub judged-more : (k : List ℕ) (more : List Refusal) → Clear (key_refusals k []) → Clear more
    → Clear (key_refusals k more)
judged-more k more (a, (b, (c, (d, u)))) r = (a, (b, (c, (d, r))))

pub judged-first : (k : List ℕ) (more : List Refusal) → Clear (key_refusals k more)
    → Clear (key_refusals k []) × Clear more
judged-first k more (a, (b, (c, (d, r)))) = ((a, (b, (c, (d, tt)))), r)

-- where the key has no fault, the rest of the refusals decide
pub judged-called : (k : List ℕ) (more : List Refusal) (values before after : List ℕ) → Clear (key_refusals k [])
    → called (key_refusals k more) values before after ≡ called more values before after
judged-called k more v b a (c, (d, (e, (f, u)))) = rw (c, d, e, f)
