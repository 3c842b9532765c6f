-- Keys stand as their blocks do, high words first.
use Rattle.std.specs.Prelude.{◌≡◌, refl, Bool, true, false, cond, ℕ, ◌*◌, ◌≤◌, eqb, ltb, length, drop}
use Rattle.std.proofs.Common.{sym, ◌∙◌, ap, drop_of_length-le, drop-drop}
use Rattle.bits.specs.Strings.{Bits}
use Rattle.blocks.specs.Blocks.{block_of}
use Rattle.families.specs.Families.{Family}
use Rattle.keys.specs.Keys.{key_of}
use Rattle.keys.specs.Size.{limit}
use Rattle.keys.proofs.Size.{key_size}
use Rattle.outcomes.specs.Comparing.{before, same, after, number_standing, standing}
use Rattle.outcomes.proofs.Standings.{decided, key-standing}
use Rattle.outcomes.proofs.FrontOrder.{front, standing-front}
use Rattle.outcomes.specs.BlockOrder.{block_below}

-- strings of at most 96 bits
standing_blocks : (s t : Bits) → length s ≤ 96 → length t ≤ 96
    → standing s t ≡ decided (front 64 s) (front 64 t) (decided (front 32 (drop 64 s)) (front 32 (drop 64 t)) same)
unfolding standing
standing_blocks s t h l =
    standing-front 64 s t
    ∙ rw (standing-front 32 (drop 64 s) (drop 64 t), drop-drop, drop-drop, drop_of_length-le s h, drop_of_length-le t l)

-- the tests of `block_below` say "before"
below-decided : (a b c d : ℕ)
    → cond (ltb a b) true (cond (ltb b a) false (ltb c d)) ≡ eqb (decided a b (decided c d same)) before
below-decided a b c d = by_tests (ltb a b) (ltb b a) (ltb c d) (ltb d c)
  where
    by_tests : (t u v w : Bool)
        → cond t true (cond u false v) ≡ eqb (cond t before (cond u after (cond v before (cond w after same)))) before
    by_tests true u v w = refl
    by_tests false true v w = refl
    by_tests false false true w = refl
    by_tests false false false true = refl
    by_tests false false false false = refl

less-number : (x y : ℕ) → eqb (number_standing x y) before ≡ ltb x y
less-number x y = by_tests (ltb x y) (ltb y x)
  where
    by_tests : (t u : Bool) → eqb (cond t before (cond u after same)) before ≡ t
    by_tests true u = refl
    by_tests false true = refl
    by_tests false false = refl

pub block_below_lem : (F : Family) (p q r s : ℕ) → 1 ≤ q → 1 ≤ s → p ≤ limit → q ≤ limit → r ≤ limit → s ≤ limit
    → block_below (block_of (key_of F p q)) (block_of (key_of F r s)) ≡ ltb (p * s) (r * q)
unfolding block_of
block_below_lem F p q r s f g a b c d =
    let j = key_of F p q in
    let k = key_of F r s in
    below-decided (front 64 j) (front 64 k) (front 32 (drop 64 j)) (front 32 (drop 64 k))
    ∙ ap (λ (n : ℕ). eqb n before)
    (sym (standing_blocks j k (key_size F p q f a b) (key_size F r s g c d)) ∙ key-standing F p q r s f g)
    ∙ less-number (p * s) (r * q)
