-- What taking the word at a place answers.
use Rattle.std.specs.Prelude.{◌≡◌, Bool, not, List, [], ◌∷◌, ℕ, ◌+◌, ◌≤◌, Some, None, Ok, Err}
use Rattle.outcomes.specs.Outcomes.{Outcome, gives, refuses}
use Rattle.outcomes.specs.Stepping.{place_of}
use Rattle.refusals.specs.Numbers.{number_of}
use Rattle.scan.specs.Taking.{is_turned, Taken}
use Rattle.scan.specs.declared.Place.{Place}
use Rattle.step.specs.Answers.{step_from}

-- the outcome of a step that takes this
abbrev pub taken_as : ℕ → Bool → Taken → Outcome
taken_as used z (Ok (Some q)) = gives (1 ∷ q.value ∷ []) (place_of (used + q.characters) (not z))
taken_as used z (Ok None) = gives (0 ∷ 0 ∷ []) (place_of used z)
taken_as used z (Err e) = refuses (number_of e) 2 (place_of used z)

-- a word ends at most 64 characters behind a place, which has at most 160 used
abbrev pub Ends : ℕ → Taken → Type 0
Ends used (Ok (Some q)) = used + q.characters ≤ 224
Ends used (Ok None) = Unit {0}
Ends used (Err e) = Unit {0}

pub record Takes (k : List ℕ) (p : Place) (t : Taken) : Type 0 where
  pub outcome : taken_as p.used (is_turned p.due) t ≡ step_from k p
  pub ends : Ends p.used t
