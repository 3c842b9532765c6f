-- How many characters at the front two texts share: character by character, or by groups that are the same in both.
use Rattle.std.specs.Prelude.{◌≡◌, refl, Bool, true, false, cond, List, [], ◌∷◌, ◌++◌, eqb, length, take, drop}
use Prim.Native.Nat.{ℕ, zero, suc, ◌+◌, ◌*◌, ◌≤◌}
use Rattle.std.specs.List.{prefix_len, zip}
use Rattle.std.specs.Simd.{first_chunks}
use Rattle.std.specs.Int.{w64, from_le_bytes}
use Rattle.bits.specs.Texts.{Bytes}
use Rattle.load.specs.Chunks.{group-long, group-small, same-eight}
use native.Mathlib.Omega.{arith}
use borrow.Author.Tests.{eq-eqb}
use Rattle.std.proofs.lemmas.List.{get_or-drop}
use Rattle.std.proofs.Common.{ap, eqb-true, length-drop, take-append-drop, drop-drop}

unfoldable pub shared_length : List ℕ → List ℕ → ℕ
shared_length [] k = 0
shared_length (a ∷ j) [] = 0
shared_length (a ∷ j) (b ∷ k) = cond (eqb a b) (suc (shared_length j k)) 0

-- the first i characters are shared: the others decide how many more are
abbrev pub Shared : List ℕ → List ℕ → ℕ → Type 0
Shared j k i = shared_length j k ≡ i + shared_length (drop i j) (drop i k)

-- what stands in front of both is shared
shared-front : (t j k : List ℕ) → shared_length (t ++ j) (t ++ k) ≡ length t + shared_length j k
unfolding shared_length
shared-front [] j k = omega arith
shared-front (a ∷ t) j k = rw (eq-eqb a a refl) (omega (arith, shared-front t j k))

pub shared_none : (j k : List ℕ) → Shared j k 0
shared_none j k = omega arith

module _ (j k : List ℕ) (i : ℕ) (s : Shared j k i) where
  -- a group of n characters that is the same in both is shared
  pub shared-group : {t : List ℕ} (n : ℕ) → length t ≡ n → t ≡ take n (drop i j) → t ≡ take n (drop i k)
      → Shared j k (i + n)
  shared-group {t} n size e f =
      let first : t ++ drop (i + n) j ≡ drop i j = rw (e, ← drop-drop n i j) (take-append-drop n (drop i j)) in
      let second : t ++ drop (i + n) k ≡ drop i k = rw (f, ← drop-drop n i k) (take-append-drop n (drop i k)) in
      omega (arith, rw (first, second) at (shared-front t (drop (i + n) j) (drop (i + n) k)))

pub shared-within : (j k : List ℕ) → (shared_length j k ≤ length j) × (shared_length j k ≤ length k)
unfolding shared_length
shared-within [] k = (omega arith, omega arith)
shared-within (a ∷ j) [] = (omega arith, omega arith)
shared-within (a ∷ j) (b ∷ k) = by_test (eqb a b) (shared-within j k)
  where
    by_test : (t : Bool) → (shared_length j k ≤ length j) × (shared_length j k ≤ length k)
        → (cond t (suc (shared_length j k)) 0 ≤ suc (length j)) × (cond t (suc (shared_length j k)) 0 ≤ suc (length k))
    by_test true h = (omega arith, omega arith)
    by_test false h = (omega arith, omega arith)

-- pairs are counted as long as they are the same
abbrev pub same_pair : ℕ × ℕ → Bool
same_pair p = eqb p.0 p.1

pub shared-pairs : (j k : List ℕ) → prefix_len same_pair (zip j k) ≡ shared_length j k
unfolding shared_length
shared-pairs [] k = refl
shared-pairs (a ∷ j) [] = refl
shared-pairs (a ∷ j) (b ∷ k) =
    let one : 1 + prefix_len same_pair (zip j k) ≡ suc (shared_length j k) = omega (arith, shared-pairs j k) in
    ap (λ (n : ℕ). cond (eqb a b) n 0) one

-- groups of eight that are the same number
abbrev pub same_number : List ℕ × List ℕ → Bool
same_number p = eqb (from_le_bytes w64 p.0) (from_le_bytes w64 p.1)

pub shared-groups : (n m : ℕ) (j k : List ℕ) → 8 * n ≤ length j → 8 * m ≤ length k → Bytes j → Bytes k
    → Shared j k (8 * prefix_len same_number (zip (first_chunks 8 n j) (first_chunks 8 m k)))
shared-groups zero m j k h l small low = shared_none j k
shared-groups (suc n) zero j k h l small low = shared_none j k
shared-groups (suc n) (suc m) j k h l small low =
    let rest =
    shared-groups n m (drop 8 j) (drop 8 k) (rw length-drop (omega arith)) (rw length-drop (omega arith))
    (λ p. rw get_or-drop (small (8 + p))) (λ p. rw get_or-drop (low (8 + p))) in
    by_test rest (eqb (from_le_bytes w64 (take 8 j)) (from_le_bytes w64 (take 8 k))) refl
  where
    i : ℕ
    i = prefix_len same_number (zip (first_chunks 8 n (drop 8 j)) (first_chunks 8 m (drop 8 k)))

    by_test : Shared (drop 8 j) (drop 8 k) (8 * i) → (t : Bool)
        → eqb (from_le_bytes w64 (take 8 j)) (from_le_bytes w64 (take 8 k)) ≡ t → Shared j k (8 * cond t (1 + i) 0)
    by_test rest false e = shared_none j k
    by_test rest true e =
        let next : 8 + 8 * i ≡ 8 * (1 + i) = omega arith in
        let same : take 8 j ≡ take 8 k =
        same-eight (take 8 j) (take 8 k) (group-long j 0 (omega arith)) (group-long k 0 (omega arith))
        (group-small j 0 small) (group-small k 0 low)
        (eqb-true (from_le_bytes w64 (take 8 j)) (from_le_bytes w64 (take 8 k)) e) in
        let first = shared-group j k 0 (shared_none j k) 8 (group-long j 0 (omega arith)) refl same in
        omega (arith, first, rw (drop-drop (8 * i) 8 j, drop-drop (8 * i) 8 k, next) at rest)
