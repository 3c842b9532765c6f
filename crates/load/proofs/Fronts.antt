-- One more character that both texts have is shared; the first two that differ, or the end of either text, end what is
-- shared.
use Rattle.std.specs.Prelude.{◌≡◌, refl, List, [], ◌∷◌, length, get_or, drop}
use Prim.Native.Nat.{ℕ, suc, ◌+◌, ◌≤◌, ◌<◌}
use Rattle.std.proofs.Math.Numerals.{add-one}
use native.Mathlib.Omega.{arith}
use borrow.Author.Tests.{eq-eqb, ne_eqb}
use Rattle.std.proofs.Common.{drop_of_length-le}
use Rattle.std.proofs.Math.Seq.{drop-cons}
use Rattle.load.specs.Fronts.{shared_length, Shared}

shared_empty : (j : List ℕ) → shared_length j [] ≡ 0
unfolding shared_length
shared_empty [] = refl
shared_empty (a ∷ j) = refl

module _ (j k : List ℕ) (i : ℕ) (s : Shared j k i) where
  module _ (l : i < length j) (m : i < length k) where
    -- one character that both have
    pub shared-more : get_or j i 0 ≡ get_or k i 0 → Shared j k (i + 1)
    unfolding shared_length
    shared-more e =
        let step : shared_length (drop i j) (drop i k) ≡ suc (shared_length (drop (suc i) j) (drop (suc i) k)) =
        rw (drop-cons j i 0, drop-cons k i 0, eq-eqb (get_or j i 0) (get_or k i 0) e) in
        rw add-one (omega arith)

    -- the first two that differ end what is shared
    pub shared_differ : (get_or j i 0 ≡ get_or k i 0 → ⊥) → i ≡ shared_length j k
    unfolding shared_length
    shared_differ n =
        let step : shared_length (drop i j) (drop i k) ≡ 0 =
        rw (drop-cons j i 0, drop-cons k i 0, ne_eqb (get_or j i 0) (get_or k i 0) n) in
        omega arith

  -- and so does the end of either text
  pub first_ends : length j ≤ i → i ≡ shared_length j k
  unfolding shared_length
  first_ends l = let step : shared_length (drop i j) (drop i k) ≡ 0 = rw (drop_of_length-le j l) in omega arith

  pub second_ends : length k ≤ i → i ≡ shared_length j k
  second_ends l =
      let step : shared_length (drop i j) (drop i k) ≡ 0 = rw (drop_of_length-le k l) (shared_empty (drop i j)) in
      omega arith
