-- A call that has only a short buffer left to refuse has its outcome by the result of the leaf that puts out.
use Rattle.std.specs.Prelude.{◌≡◌, Bool, true, false, cond, List, [], ◌∷◌, ℕ, ltb, length, Result}
use Rattle.std.proofs.Common.{ap}
use Rattle.outcomes.specs.Outcomes.{leaves, gives, refuses, called}
use Rattle.outcomes.specs.Refusals.{short_buffer}
use Rattle.refusals.specs.declared.Refusal.{Refusal}
use Rattle.refusals.specs.Answers.{answered}
use Rattle.refusals.specs.Buffers.{Put}

pub put-called : {X : Type 0} (size v : ℕ) (values : X → List ℕ) (m after : List ℕ) (k : X) (r : Result X Refusal)
    (e : List ℕ) → length (values k) ≡ v → Put (ltb (length m) size) m after k r e
    → leaves (answered v values r) e ≡ called (short_buffer size m ∷ []) (values k) m after
put-called {X} size v values m after k r e same = by_test (ltb (length m) size)
  where
    by_test : (short : Bool) → Put short m after k r e
        → leaves (answered v values r) e ≡ cond short (refuses 2 (length (values k)) m) (gives (values k) after)
    by_test true p =
        rw (
          ap (λ (x : Result X Refusal × List ℕ). x.0) p,
          ap (λ (x : Result X Refusal × List ℕ). x.1) p,
          same,
        )
    by_test false p =
        rw (ap (λ (x : Result X Refusal × List ℕ). x.0) p, ap (λ (x : Result X Refusal × List ℕ). x.1) p)
