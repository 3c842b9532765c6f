-- What a judgement tells a call that judges a text key first: its outcome where there is a fault, and else that the
-- rest of its refusals decide. A call that judges by `?` states `told_on` for its own outcome, with the six arguments
-- before the result written out. It gives that `c.in_err-judge.ensures` and `c.from_residual.ensures.1` at the exit,
-- and behind the `?` it gives `c.in_ok-judge.ensures` to `told-key`.
use Rattle.std.specs.Prelude.{◌≡◌, refl, Bool, true, false, cond, List, [], length, Result, Ok, Err}
use Rattle.std.proofs.Common.{sym, ltb-false}
use Prim.Native.Nat.{ℕ, ◌-◌, ◌≤◌}
use Rattle.std.specs.Result.{IsErrAnd}
use Rattle.outcomes.specs.Outcomes.{Outcome, Refusal, leaves, refuses, called}
use Rattle.outcomes.specs.Laws.{Clear}
use Rattle.outcomes.proofs.Laws.{gives-clear}
use Rattle.outcomes.specs.Refusals.{first_strange, empty_key, long_key, strange_key, open_key, key_refusals}
use Rattle.refusals.specs.declared.Refusal as reasons
use Rattle.refusals.specs.declared.Refusal.TheVariants.{EmptyKey, LongKey, StrangeKey, OpenKey}
use Rattle.refusals.specs.Numbers.{number_of}
use Rattle.refusals.specs.Answers.{answered}
use Rattle.scan.specs.declared.Fault.{Fault}
use Rattle.scan.specs.Judging.{fault, judgement}

module _ (k : List ℕ) (more : List Refusal) (values before after : List ℕ) where
  abbrev whole : Outcome
  whole = called (key_refusals k more) values before after

  abbrev rest : Outcome
  rest = called more values before after

  abbrev Tells : Outcome → Result (Unit {0}) Fault → Type 0
  Tells o (Ok _) = (length k ≤ 96) × (rest ≡ o)
  Tells o (Err f) = refuses (number_of f.refusal) (length values) before ≡ o

  told : (j : Result (Unit {0}) Fault) → j ≡ judgement k → Tells whole j
  unfolding judgement
  told j e = rw e (by_tests (empty_key k).1 (long_key k).1 (strange_key k).1 (open_key k).1 refl)
    where
      refused : ℕ → Outcome
      refused n = refuses n (length values) before

      by_tests : (a b c d : Bool) → (long_key k).1 ≡ b
          → Tells (cond a (refused 3) (cond b (refused 4) (cond c (refused 5) (cond d (refused 6) rest))))
          (cond a (Err (fault EmptyKey 0)) (cond b (Err (fault LongKey 96))
          (cond c (Err (fault StrangeKey (first_strange k))) (cond d (Err (fault OpenKey (length k - 1))) (Ok tt)))))
      by_tests true b c d h = refl
      by_tests false true c d h = refl
      by_tests false false true d h = refl
      by_tests false false false true h = refl
      by_tests false false false false h = (ltb-false 96 (length k) h, refl)

  pub told_faulty : (f : Fault) → Err f ≡ judgement k → refuses (number_of f.refusal) (length values) before ≡ whole
  told_faulty f e = told (Err f) e

  -- the same of a result r that a `?` hands on, whose refusal is the fault's
  pub told_on : {X : Type 0} (said : X → List ℕ) (r : Result X reasons.Refusal) (f : Fault) → Err f ≡ judgement k
      → IsErrAnd r (λ d. d ≡ f.refusal) → leaves (answered (length values) said r) before ≡ whole
  told_on said (Ok x) f e h = absurd h
  told_on said (Err d) f e h = rw h (told_faulty f e)

  pub told-key : Ok tt ≡ judgement k → (length k ≤ 96) × (rest ≡ whole)
  told-key e = told (Ok tt) e

-- a key has none of the four faults
pub judged-clear : (k : List ℕ) → Ok tt ≡ judgement k → Clear (key_refusals k [])
judged-clear k e =
    (gives-clear (key_refusals k []) [] [] [] refl [] [] (sym (told-key k [] [] [] [] e).1)).0

-- an answer that the number of each fault tells
module _ {A : Type 0} (answer_of : ℕ → A) (faulty : reasons.Refusal → A) (empty : answer_of 3 ≡ faulty EmptyKey)
    (long : answer_of 4 ≡ faulty LongKey) (strange : answer_of 5 ≡ faulty StrangeKey)
    (last_zero : answer_of 6 ≡ faulty OpenKey) where
  abbrev Told : Result (Unit {0}) Fault → Type 0
  Told (Ok _) = Unit {0}
  Told (Err f) = answer_of (number_of f.refusal) ≡ faulty f.refusal

  told_by_number : (k : List ℕ) (j : Result (Unit {0}) Fault) → j ≡ judgement k → Told j
  unfolding judgement
  told_by_number k j e = rw e (by_tests (empty_key k).1 (long_key k).1 (strange_key k).1 (open_key k).1)
    where
      by_tests : (a b c d : Bool)
          → Told (cond a (Err (fault EmptyKey 0)) (cond b (Err (fault LongKey 96))
          (cond c (Err (fault StrangeKey (first_strange k))) (cond d (Err (fault OpenKey (length k - 1))) (Ok tt)))))
      by_tests true b c d = empty
      by_tests false true c d = long
      by_tests false false true d = strange
      by_tests false false false true = last_zero
      by_tests false false false false = tt

  pub fault_told : (k : List ℕ) (f : Fault) → Err f ≡ judgement k → answer_of (number_of f.refusal) ≡ faulty f.refusal
  fault_told k f e = told_by_number k (Err f) e
