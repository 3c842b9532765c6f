-- What a program over lines does: a machine is fed byte by byte and answers at each newline. It is fed a stretch of
-- the input at a time, as much of it as there is room for answers.
use Rattle.std.specs.Prelude.{◌≡◌, Bool, true, false, cond, ℕ, ◌+◌, ◌-◌, ◌≤◌, eqb, ltb, length, take, drop}
use mathlib.Core.List.{List, [], ◌∷◌, ◌++◌, foldl}

pub record Machine : Type 1 where
  pub State : Type 0
  pub start : State
  pub fed : State → ℕ → State
  -- whether nothing was fed yet
  pub blank : State → Bool
  pub answer : State → List ℕ
  pub longest : ℕ
  pub start_blank : blank start ≡ true
  pub fed_some : (s : State) (c : ℕ) → blank (fed s c) ≡ false
  pub within : (s : State) → length (answer s) ≤ longest

-- what a stretch gives: how many of its bytes are taken, the state after them, the answers written
pub record Stretch (S : Type 0) : Type 0 where
  pub taken : ℕ
  pub state : S
  pub text : List ℕ

-- the same, n bytes further on and behind the text a
abbrev pub behind : {S : Type 0} → ℕ → List ℕ → Stretch S → Stretch S
behind n a r = record { taken = n + r.taken; state = r.state; text = a ++ r.text }

module _ (M : Machine) where
  -- the answer to a line
  abbrev pub answer_to : List ℕ → List ℕ
  answer_to l = M.answer (foldl M.fed M.start l)

  -- all that is written from a state on, if the rest of the input is fed at once; at its end a last line without a
  -- newline is answered
  unfoldable pub whole : M.State → List ℕ → List ℕ
  whole s [] = cond (M.blank s) [] (M.answer s)
  whole s (c ∷ t) = cond (eqb c 10) (M.answer s ++ whole M.start t) (whole (M.fed s c) t)

  abbrev pub untouched : M.State → Stretch M.State
  untouched s = record { taken = 0; state = s; text = [] }

  -- a stretch, where room bytes may be written: a newline is taken only where the longest answer fits
  unfoldable pub stretched : ℕ → M.State → List ℕ → Stretch M.State
  stretched room s [] = untouched s
  stretched room s (c ∷ t) =
      cond (eqb c 10)
      (cond (ltb room M.longest) (untouched s)
      (behind 1 (M.answer s) (stretched (room - length (M.answer s)) M.start t)))
      (behind 1 [] (stretched room (M.fed s c) t))

  -- what is fed at the end of the input: the newline that the last line lacks
  abbrev pub lacking : M.State → List ℕ
  lacking s = cond (M.blank s) [] (10 ∷ [])

  -- all that is written, turn by turn: a turn reads n bytes of what is left and has some room, and what it doesn't take
  -- is left to the next
  unfoldable pub run : M.State → List ℕ → List (ℕ × ℕ) → List ℕ
  run s t [] = whole s t
  run s t ((n, room) ∷ turns) =
      let r = stretched room s (take n t) in r.text ++ run r.state (drop r.taken t) turns
