-- Of the order of texts by their bytes: what stands behind the front that they share decides; and it is the library's
-- order of slices.
use Rattle.std.specs.Prelude.{◌≡◌, refl, Bool, true, false, cond, List, [], ◌∷◌, ℕ, suc, ◌≤◌, ◌<◌, eqb, ltb}
use Rattle.std.specs.Prelude.{length, get_or, drop}
use Rattle.std.proofs.Common.{◌∙◌, arith, le-ltb, lt-ltb, eq-eqb, ne_eqb, eqb-true, drop_of_length-le, drop-cons}
use Rattle.std.proofs.Math.Decide.{dec_lt}
use Rattle.std.proofs.lemmas.Bool.{eqb-false}
use Rattle.std.specs.Cmp.Lexicographic.{slice_cmp}
use Rattle.std.specs.Ordering.{nat_cmp}
use Rattle.load.specs.Fronts.{shared_length}
use Rattle.outcomes.specs.Comparing.{before, same, after}
use Rattle.compare.specs.Answers.{standing_as}
use Rattle.compare.specs.Bytes.{byte_standing}

-- how texts stand that differ in their first byte, where both have one
abbrev firsts_standing : List ℕ → List ℕ → ℕ
firsts_standing [] [] = same
firsts_standing [] (b ∷ k) = before
firsts_standing (a ∷ j) [] = after
firsts_standing (a ∷ j) (b ∷ k) = cond (ltb a b) before after

-- the texts stand as those that are left from i on
abbrev Level : List ℕ → List ℕ → ℕ → Type 0
Level j k i = byte_standing j k ≡ firsts_standing (drop i j) (drop i k)

-- equal bytes decide nothing, others at once
level-more : (a b : ℕ) (j k : List ℕ) (i : ℕ) (t : Bool) → eqb a b ≡ t → Level j k i
    → Level (a ∷ j) (b ∷ k) (cond t (suc i) 0)
unfolding byte_standing
level-more a b j k i true h e =
    let equal = eqb-true a b h in rw (le-ltb a b (omega arith), le-ltb b a (omega arith)) e
level-more a b j k i false h e = by_size (dec_lt a b)
  where
    by_size : Dec (a < b)
        → cond (ltb a b) before (cond (ltb b a) after (byte_standing j k)) ≡ cond (ltb a b) before after
    by_size (yes l) = rw (lt-ltb a b l)
    by_size (no l) =
        let differ = eqb-false a b h in
        let larger : b < a = omega arith in rw (le-ltb a b (omega arith), lt-ltb b a larger)

level-shared : (j k : List ℕ) → Level j k (shared_length j k)
unfolding byte_standing shared_length
level-shared [] [] = refl
level-shared [] (b ∷ k) = refl
level-shared (a ∷ j) [] = refl
level-shared (a ∷ j) (b ∷ k) = level-more a b j k (shared_length j k) (eqb a b) refl (level-shared j k)

-- what stands behind the shared front decides
module _ (j k : List ℕ) (i : ℕ) (e : i ≡ shared_length j k) where
  level : Level j k i
  level = rw (← e) at (level-shared j k)

  pub smaller_first : i < length j → i < length k → get_or j i 0 < get_or k i 0 → byte_standing j k ≡ before
  smaller_first l m h = level ∙ rw (drop-cons j i 0, drop-cons k i 0, lt-ltb (get_or j i 0) (get_or k i 0) h)

  pub larger_first : i < length j → i < length k → get_or k i 0 ≤ get_or j i 0 → byte_standing j k ≡ after
  larger_first l m h = level ∙ rw (drop-cons j i 0, drop-cons k i 0, le-ltb (get_or j i 0) (get_or k i 0) h)

  pub goes_on_first : i < length j → length k ≤ i → byte_standing j k ≡ after
  goes_on_first l m = level ∙ rw (drop-cons j i 0, drop_of_length-le k m)

  pub goes_on_second : length j ≤ i → i < length k → byte_standing j k ≡ before
  goes_on_second l m = level ∙ rw (drop_of_length-le j l, drop-cons k i 0)

  pub both_end : length j ≤ i → length k ≤ i → byte_standing j k ≡ same
  both_end l m = level ∙ rw (drop_of_length-le j l, drop_of_length-le k m)

-- the library's order of slices
abbrev Stands : List ℕ → List ℕ → Type 0
Stands j k = standing_as (slice_cmp nat_cmp j k) ≡ byte_standing j k ∷ []

stands-more : (a b : ℕ) (j k : List ℕ) → Dec (a < b) → Dec (b < a) → Stands j k → Stands (a ∷ j) (b ∷ k)
unfolding byte_standing
stands-more a b j k (yes l) d s = rw (lt-ltb a b l)
stands-more a b j k (no l) (yes m) s =
    let n : a ≡ b → ⊥ = λ e. omega arith in rw (le-ltb a b (omega arith), ne_eqb a b n, lt-ltb b a m)
stands-more a b j k (no l) (no m) s =
    let e : a ≡ b = omega arith in rw (le-ltb a b (omega arith), eq-eqb a b e, le-ltb b a (omega arith)) s

pub stands : (j k : List ℕ) → Stands j k
unfolding byte_standing
stands [] [] = refl
stands [] (b ∷ k) = refl
stands (a ∷ j) [] = refl
stands (a ∷ j) (b ∷ k) = stands-more a b j k (dec_lt a b) (dec_lt b a) (stands j k)
