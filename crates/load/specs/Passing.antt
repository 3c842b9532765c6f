-- How far a text was found to have no strange character, one that is neither 0 nor 1: character by character, or by
-- groups that are texts of bits.
use Rattle.std.specs.Prelude.{◌≡◌, ◌≢◌, refl, Option, true, ◌||◌, ◌⊎◌, List, ◌++◌, ℕ, zero, suc, ◌+◌, ◌*◌, ◌-◌, ◌≤◌, ◌<◌, eqb, length, take, drop}
use Rattle.std.specs.Option.{MatchOption, unwrap_or}
use Rattle.std.specs.List.{AllWithin, HoldsAt}
use Rattle.std.proofs.lemmas.Iterator.{index_from_first}
use Rattle.std.proofs.Common.{sym, ◌∙◌, ap, inl, inr, arith, ne_eqb, drop_of_length-le, length-drop, take-append-drop, drop-drop}
use Rattle.std.proofs.lemmas.List.{length-map}
use Rattle.std.proofs.Math.Seq.{drop-length}
use Rattle.bits.proofs.Pieces.{drop-map}
use Rattle.bits.specs.Texts.{char_of, text_of, bits_of_text}
use Rattle.outcomes.specs.Refusals.{first_strange}
use Rattle.load.specs.Chunks.{group_at, group-long}
use Rattle.outcomes.proofs.TextKeys.{text-passed, text-plain}

-- a text of bits: each character is 0 or 1
abbrev pub Plain : List ℕ → Type 0
Plain t = text_of (bits_of_text t) ≡ t

-- none of the first i characters is strange: the first strange one is found among the others
abbrev pub Passed : List ℕ → ℕ → Type 0
Passed k i = first_strange k ≡ i + first_strange (drop i k)

pub passed_none : (k : List ℕ) → Passed k 0
passed_none k = omega arith

-- a character that is 0 or 1, and one that is neither
abbrev pub Digit : ℕ → Type 0
Digit c = (c ≡ 48) ⊎ (c ≡ 49)

abbrev pub Strange : ℕ → Type 0
Strange c = (c ≢ 48) × (c ≢ 49)

-- a digit passes the test for that
pub is_digit_lem : (c : ℕ) → Digit c → (eqb c 48 || eqb c 49) ≡ true
is_digit_lem c (inl e) = rw e
is_digit_lem c (inr e) = rw e

-- the first strange one, or the length where there is none
pub strange_found : (k : List ℕ) (r : Option ℕ)
    → MatchOption r (AllWithin Digit k 0 (length k)) (λ i. (i < length k) × HoldsAt Strange k i × AllWithin Digit k 0 i)
    → unwrap_or r (length k) ≡ first_strange k
unfolding first_strange
strange_found k r h = sym (index_from_first first_strange Strange Digit refl
    (λ c l s. rw (ne_eqb c 48 s.0, ne_eqb c 49 s.1)) (λ c l d. rw (is_digit_lem c d) (omega arith)) k r h)

pub passed-all : (k : List ℕ) (i : ℕ) → length k ≤ i → Passed k i → i ≡ first_strange k
unfolding first_strange
passed-all k i l p = let step : first_strange (drop i k) ≡ 0 = rw (drop_of_length-le k l) in omega arith

-- a group of n characters that is a text of bits is passed
pub passed-group : (k : List ℕ) {t : List ℕ} (i n : ℕ) → length t ≡ n → t ≡ take n (drop i k) → Plain t → Passed k i
    → Passed k (i + n)
passed-group k {t} i n size e plain p =
    let rest = drop (i + n) k in
    let cut : text_of (bits_of_text t) ++ rest ≡ drop i k =
    rw (plain, e, ← drop-drop n i k) (take-append-drop n (drop i k)) in
    omega (arith, rw cut at (text-passed (bits_of_text t) rest), length-map t (λ c. eqb c 49))

-- so are all groups that are
pub passed-groups : (k : List ℕ) (n : ℕ) → 8 * n ≤ length k → ((i : ℕ) → i < n → Plain (group_at k i))
    → Passed k (8 * n)
passed-groups k zero h p = passed_none k
passed-groups k (suc n) h p =
    let more : 8 * suc n ≡ 8 * n + 8 = omega arith in
    rw more
    (passed-group k (8 * n) 8 (group-long k n h) refl (p n (omega arith))
    (passed-groups k n (omega arith) λ i l. p i (omega arith)))

-- so is the rest of a text, where it lies within a group at the end
pub passed-last : (k : List ℕ) {t : List ℕ} (m i : ℕ) → t ≡ drop m k → m ≤ i → i ≤ length k → Plain t → Passed k i
    → Passed k (length k)
unfolding first_strange
passed-last k {t} m i whole h within plain p =
    let s = bits_of_text t in
    let place : i ≡ m + (i - m) = omega arith in
    let rest : drop i k ≡ text_of (drop (i - m) s) =
    ap (λ (x : ℕ). drop x k) place
    ∙ sym (drop-drop (i - m) m k)
    ∙ ap (drop (i - m)) (sym (plain ∙ whole))
    ∙ drop-map char_of (i - m) s in
    let size : length s ≡ length k - m = rw (length-map, whole, length-drop) in
    let none : first_strange (drop (length k) k) ≡ 0 = rw drop-length in
    omega (arith, rw (← rest) at (text-plain (drop (i - m) s)), length-drop (i - m) s)
