-- What starting and stepping answer, by what judging and taking gave.
use Rattle.std.specs.Prelude.{◌≡◌, Bool, true, false, not, ◌⊎◌, ℕ, ◌≤◌, ◌<◌, length, get_or, Some, None, Result, Ok, Err}
use Rattle.std.proofs.Common.{◌∙◌, arith}
use Rattle.std.specs.Result.{IsErrAnd}
use mathlib.Core.List.{List, [], ◌∷◌}
use borrow.Author.Tests.{eq-eqb, ne_eqb, eqb-false, lt-ltb, le-ltb}
use Rattle.std.proofs.Math.Dec.{eqb}
use Rattle.std.proofs.Math.ListN.{get_or-map}
use Rattle.bits.specs.Strings.{Bits}
use Rattle.bits.specs.Texts.{bits_of_text}
use Rattle.families.specs.Words.{first_number}
use Rattle.keys.specs.Size.{limit}
use Rattle.keys.specs.Places.{left_at}
use Rattle.outcomes.specs.Outcomes.{Refusal, leaves, gives, called}
use Rattle.outcomes.specs.Refusals.{long_quotient, outside}
use Rattle.outcomes.proofs.Cuts.{inside, beyond}
use Rattle.outcomes.specs.Stepping.{place_of, start_text, quotient_at, found, place_after, step_text}
use Rattle.refusals.specs.declared.Refusal as reasons
use Rattle.refusals.specs.declared.Refusal.TheVariants.{Outside}
use Rattle.refusals.specs.Answers.{answered}
use Rattle.scan.specs.Judging.{judgement}
use Rattle.scan.specs.Taking.{is_turned, Taken, taken_from, taken_at}
use Rattle.scan.proofs.Told.{Told, told, taken_size}
use Rattle.scan.proofs.Callers.{told_faulty, told_on, told-key, judged-clear}
use Rattle.scan.specs.declared.Fault.{Fault}
use Rattle.scan.specs.declared.Place.{Place}
use Rattle.step.specs.Answers.{place_as}
use Rattle.step.specs.Replies.{taken_as, Ends, Takes}

module _ (k : List ℕ) where
  abbrev first : Bool
  first = get_or (bits_of_text k) 0 false

  pub start_faulty : (r : Result Place reasons.Refusal) (f : Fault) → Err f ≡ judgement k
      → IsErrAnd r (λ d. d ≡ f.refusal) → leaves (answered 2 place_as r) [] ≡ start_text k
  unfolding start_text
  start_faulty = told_on k [] (place_of 1 (not first)) [] [] place_as

  -- a key has a first character
  pub some-character : Ok tt ≡ judgement k → 0 < length k
  some-character e = omega (arith, eqb-false (length k) 0 (judged-clear k e).0)

  start-at : Ok tt ≡ judgement k → (b : Bool) → eqb (get_or k 0 0) 49 ≡ b → gives (place_of 1 (not b)) [] ≡ start_text k
  unfolding start_text
  start-at e b t =
      let same : first ≡ b = get_or-map (λ c. eqb c 49) k 0 0 ∙ t in
      rw (← same) (told-key k [] (place_of 1 (not first)) [] [] e).1

  pub start-word : Ok tt ≡ judgement k → get_or k 0 0 ≡ 49 → gives (place_of 1 false) [] ≡ start_text k
  start-word e h = start-at e true (eq-eqb (get_or k 0 0) 49 h)

  pub start_turned : Ok tt ≡ judgement k → (get_or k 0 0 ≡ 49 → ⊥) → gives (place_of 1 true) [] ≡ start_text k
  start_turned e h = start-at e false (ne_eqb (get_or k 0 0) 49 h)

module _ (k : List ℕ) (p : Place) where
  abbrev used : ℕ
  used = p.used

  abbrev z : Bool
  z = is_turned p.due

  abbrev here : List ℕ
  here = place_of used z

  abbrev rest : Bits
  rest = left_at (bits_of_text k) used z

  abbrev next : ℕ
  next = quotient_at (bits_of_text k) used z

  abbrev after : List ℕ
  after = place_after next used z

  abbrev more : List Refusal
  more = outside 160 used ∷ long_quotient next ∷ []

  pub step_faulty : (r : Taken) (f : Fault) → Err f ≡ judgement k → IsErrAnd r (λ d. d ≡ f.refusal) → Takes k p r
  unfolding step_text
  step_faulty (Ok t) f e h = absurd h
  step_faulty (Err d) f e h =
      record { outcome = rw h (told_faulty k more (found next) here after f e); ends = tt }

  taken-outcome : (t : Taken) → Told z rest t
      → taken_as used z t ≡ called (long_quotient next ∷ []) (found next) here after
  unfolding quotient_at
  taken-outcome (Ok (Some q)) g =
      rw (g.going, g.first, le-ltb limit q.value g.small, lt-ltb 0 q.value g.positive, g.count)
  taken-outcome (Ok None) g = rw g
  taken-outcome (Err d) (e, g, l) = rw (e, g, lt-ltb limit (first_number z rest) l)

  module _ (e : Ok tt ≡ judgement k) where
    judged : (length k ≤ 96) × (called more (found next) here after ≡ step_text k used z)
    unfolding step_text
    judged = told-key k more (found next) here after e

    pub step-outside : (used ≡ 0) ⊎ (160 < used) → Takes k p (Err Outside)
    step-outside h = record { outcome = rw (beyond 160 used h) at judged.1; ends = tt }

    ends : used ≤ 160 → (t : Taken) → t ≡ taken_from z rest → Ends used t
    ends most (Ok (Some q)) takes = omega (arith, (taken_size z rest q takes).1)
    ends most (Ok None) takes = tt
    ends most (Err d) takes = tt

    pub step-taken : 1 ≤ used → used ≤ 160 → (t : Taken) → t ≡ taken_at (bits_of_text k) p → Takes k p t
    step-taken some most t takes = record {
      outcome = taken-outcome t (told z rest t takes) ∙ rw (inside 160 used some most) at judged.1;
      ends = ends most t takes;
    }
