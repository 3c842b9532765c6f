-- The judgement of a key by the tests that it has passed.
use Rattle.std.specs.Prelude.{◌≡◌, refl, cond, List, [], ◌∷◌, ℕ, zero, suc, ◌-◌, ◌≤◌, ◌<◌, get_or, Ok, Err}
use native.Mathlib.Omega.{arith}
use borrow.Author.Tests.{eq-eqb, ne_eqb, lt-ltb, le-ltb}
use Rattle.std.proofs.Math.ListN.{length}
use Rattle.outcomes.specs.Refusals.{first_strange, open_key}
use Rattle.refusals.specs.declared.Refusal.TheVariants.{EmptyKey, LongKey, StrangeKey, OpenKey}
use Rattle.scan.specs.Judging.{fault, judgement}

-- only the last character is left to judge
abbrev pub Cleared : List ℕ → Type 0
Cleared k = judgement k ≡ cond (open_key k).1 (Err (fault OpenKey (length k - 1))) (Ok tt)

pub judged_empty : (k : List ℕ) → length k ≡ 0 → Err (fault EmptyKey 0) ≡ judgement k
unfolding judgement
judged_empty k e = rw (eq-eqb (length k) 0 e)

module _ (k : List ℕ) (some : length k ≡ 0 → ⊥) where
  pub judged_long : 96 < length k → Err (fault LongKey 96) ≡ judgement k
  unfolding judgement
  judged_long l = rw (ne_eqb (length k) 0 some, lt-ltb 96 (length k) l)

  module _ (fits : length k ≤ 96) {at : ℕ} (first : at ≡ first_strange k) where
    pub judged_strange : at < length k → Err (fault StrangeKey at) ≡ judgement k
    unfolding judgement
    judged_strange l =
        let strange : first_strange k < length k = omega arith in
        rw (first, ne_eqb (length k) 0 some, le-ltb 96 (length k) fits, lt-ltb (first_strange k) (length k) strange)

    pub cleared : length k ≤ at → Cleared k
    unfolding judgement
    cleared l =
        rw (ne_eqb (length k) 0 some, le-ltb 96 (length k) fits, le-ltb (first_strange k) (length k) (omega arith))

-- within a list it doesn't matter what is taken to stand past its end
within : (k : List ℕ) (i d e : ℕ) → i < length k → get_or k i d ≡ get_or k i e
within [] i d e h = absurd (omega arith)
within (a ∷ k) zero d e h = refl
within (a ∷ k) (suc i) d e h = within k i d e (omega arith)

module _ (k : List ℕ) (left : Cleared k) where
  pub judged_single : length k ≤ 1 → Ok tt ≡ judgement k
  judged_single l = rw (left, le-ltb 1 (length k) l)

  module _ (long : 1 < length k) (d : ℕ) where
    last : get_or k (length k - 1) 48 ≡ get_or k (length k - 1) d
    last = within k (length k - 1) 48 d (omega arith)

    pub judged_open : get_or k (length k - 1) d ≡ 48 → Err (fault OpenKey (length k - 1)) ≡ judgement k
    judged_open e = rw (left, lt-ltb 1 (length k) long, last, e)

    pub judged-key : (get_or k (length k - 1) d ≡ 48 → ⊥) → Ok tt ≡ judgement k
    judged-key n = rw (left, lt-ltb 1 (length k) long, last, ne_eqb (get_or k (length k - 1) d) 48 n)
