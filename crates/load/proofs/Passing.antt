-- How far a text was found to have no strange character, character by character or by a group at the end.
use Rattle.std.specs.Prelude.{◌≡◌, ◌⊎◌, List, ℕ, suc, ◌+◌, ◌≤◌, ◌<◌, length, get_or, take, drop}
use Rattle.std.proofs.Common.{◌∙◌, add-one, arith, ne_eqb, take_all, length-drop, drop-cons}
use Rattle.outcomes.specs.Refusals.{first_strange}
use Rattle.load.specs.Passing as pieces
use Rattle.load.specs.Passing.{Plain, Passed, is_digit_lem}

-- one more character that is 0 or 1 is passed
pub passed-more : (k : List ℕ) (i d : ℕ) → i < length k → (get_or k i d ≡ 48) ⊎ (get_or k i d ≡ 49) → Passed k i
    → Passed k (i + 1)
unfolding first_strange
passed-more k i d l e p =
    let step : first_strange (drop i k) ≡ suc (first_strange (drop (suc i) k)) =
    rw (drop-cons k i d, is_digit_lem (get_or k i d) e) in
    rw add-one (omega arith)

-- one that is neither is the first
pub passed_strange : (k : List ℕ) (i d : ℕ) → i < length k → (get_or k i d ≡ 48 → ⊥) → (get_or k i d ≡ 49 → ⊥)
    → Passed k i → i ≡ first_strange k
unfolding first_strange
passed_strange k i d l a b p =
    let step : first_strange (drop i k) ≡ 0 =
    rw (drop-cons k i d, ne_eqb (get_or k i d) 48 a, ne_eqb (get_or k i d) 49 b) in
    omega arith

-- the rest of a text is passed, where it lies within a group at the end that is a text of bits
pub passed-last : (k : List ℕ) {t : List ℕ} (m i n : ℕ) → t ≡ take n (drop m k) → length k ≤ m + n → m ≤ i
    → i ≤ length k → Plain t → Passed k i → Passed k (length k)
passed-last k m i n e l =
    pieces.passed-last k m i (e ∙ take_all n (drop m k) (omega (arith, length-drop m k)))
