-- Of keys without fault the order by bytes is that of the strings extended by zeros: after its first bit such a key is
-- empty or ends in 1, so that one that goes on where the other ends has a 1 there.
use Rattle.std.specs.Prelude.{◌≡◌, refl, Bool, true, false, ℕ}
use Rattle.std.proofs.Common.{sym, ◌∙◌, ap, inl, inr}
use mathlib.Core.List.{List, [], ◌∷◌, ◌++◌, cons≢nil, tail-eq_of_cons-eq}
use Rattle.bits.specs.Strings.{Bits}
use Rattle.bits.specs.Texts.{text_of, bits_of_text}
use Rattle.bits.proofs.Trim.{Tidy}
use Rattle.keys.specs.Keys.{Canonical}
use Rattle.keys.proofs.Back.{not-canonical}
use Rattle.outcomes.specs.Comparing.{before, after, standing}
use Rattle.outcomes.specs.Laws.{Clear}
use Rattle.outcomes.specs.Refusals.{key_refusals}
use Rattle.outcomes.proofs.TextKeys.{clear-canonical}
use Rattle.compare.specs.Bytes.{byte_standing}

-- a string that ends in 1 comes after the empty one
empty_first : (u : Bits) → standing [] (u ++ (true ∷ [])) ≡ before
unfolding standing
empty_first [] = refl
empty_first (true ∷ u) = refl
empty_first (false ∷ u) = empty_first u

empty_second : (u : Bits) → standing (u ++ (true ∷ [])) [] ≡ after
unfolding standing
empty_second [] = refl
empty_second (true ∷ u) = refl
empty_second (false ∷ u) = empty_second u

-- what ends in 1 has a rest that is empty or ends in 1
rest : (b : Bool) (s u : Bits) → b ∷ s ≡ u ++ (true ∷ []) → Tidy s
rest b s [] e = inl (tail-eq_of_cons-eq e)
rest b s (c ∷ u) e = inr (u, tail-eq_of_cons-eq e)

canonical-rest : (b : Bool) (s : Bits) → Canonical (b ∷ s) → Tidy s
canonical-rest b s (inl e) = inl (tail-eq_of_cons-eq e)
canonical-rest b s (inr (u, e)) = rest b s u e

ended : (b : Bool) (s : Bits) → Tidy (b ∷ s) → (u : Bits) × (b ∷ s ≡ u ++ (true ∷ []))
ended b s (inl e) = absurd (cons≢nil e)
ended b s (inr p) = p

-- the texts stand as the strings do
abbrev Alike : Bits → Bits → Type 0
Alike s t = byte_standing (text_of s) (text_of t) ≡ standing s t

alike-more : (b c : Bool) (s t : Bits) → Alike s t → Alike (b ∷ s) (c ∷ t)
unfolding byte_standing standing
alike-more true true s t e = e
alike-more true false s t e = refl
alike-more false true s t e = refl
alike-more false false s t e = e

alike : (s t : Bits) → Tidy s → Tidy t → Alike s t
unfolding byte_standing standing
alike [] [] p q = refl
alike [] (c ∷ t) p q = let (u, e) = ended c t q in sym (ap (standing []) e ∙ empty_first u)
alike (b ∷ s) [] p q = let (u, e) = ended b s p in sym (ap (λ (r : Bits). standing r []) e ∙ empty_second u)
alike (b ∷ s) (c ∷ t) p q =
    let (u, e) = ended b s p in
    let (v, f) = ended c t q in
    alike-more b c s t (alike s t (rest b s u e) (rest c t v f))

canonical-alike : (s t : Bits) → Canonical s → Canonical t → Alike s t
canonical-alike [] t p q = absurd (not-canonical p)
canonical-alike (b ∷ s) [] p q = absurd (not-canonical q)
canonical-alike (b ∷ s) (c ∷ t) p q = alike-more b c s t (alike s t (canonical-rest b s p) (canonical-rest c t q))

pub byte_standing_lem : (j k : List ℕ) → Clear (key_refusals j []) → Clear (key_refusals k [])
    → byte_standing j k ≡ standing (bits_of_text j) (bits_of_text k)
byte_standing_lem j k c d =
    let (p, (l, e)) = clear-canonical j c in
    let (q, (m, f)) = clear-canonical k d in
    (λ i. byte_standing (sym e i) (sym f i)) ∙ canonical-alike (bits_of_text j) (bits_of_text k) p q
