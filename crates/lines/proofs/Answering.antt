-- A machine that is fed the whole input writes the answers to its lines.
use Rattle.std.specs.Prelude.{◌≡◌, Bool, cond, ℕ, eqb}
use Rattle.std.proofs.Math.Path.{refl}
use Rattle.std.proofs.Math.Bool.{true, false}
use mathlib.Core.List.{List, [], ◌∷◌, ◌++◌, map, flatten, foldl, append-nil}
use Rattle.lines.specs.Lines.{in_first, lines_of, answered}
use Rattle.lines.specs.Machines.{Machine, answer_to, whole}

module _ (M : Machine) where
  -- the answers to the lines that are left, of which the first goes on from a state
  abbrev answers_from : M.State → List (List ℕ) → List ℕ
  answers_from s [] = cond (M.blank s) [] (M.answer s)
  answers_from s (l ∷ ls) = M.answer (foldl M.fed s l) ++ flatten (map (answer_to M) ls)

  -- from the start on, the first line is a line like the others
  from-start : (ls : List (List ℕ)) → answers_from M.start ls ≡ flatten (map (answer_to M) ls)
  unfolding flatten
  from-start [] = rw M.start_blank
  from-start (l ∷ ls) = refl

  -- by whether the byte c is a newline: then a line ends, and otherwise c is in front of the first line that is left
  from-byte : (s : M.State) (c : ℕ) (ls : List (List ℕ)) (b : Bool)
      → cond b (M.answer s ++ answers_from M.start ls) (answers_from (M.fed s c) ls)
      ≡ answers_from s (cond b ([] ∷ ls) (in_first c ls))
  unfolding flatten
  from-byte s c ls true = rw from-start
  from-byte s c [] false = simp (M.fed_some, append-nil)
  from-byte s c (l ∷ ls) false = refl

  -- fed from any state, it goes on with the line that was begun
  whole-from : (s : M.State) (t : List ℕ) → whole M s t ≡ answers_from s (lines_of t)
  unfolding whole lines_of
  whole-from s [] = refl
  whole-from s (c ∷ t) =
      rw (whole-from M.start t, whole-from (M.fed s c) t) (from-byte s c (lines_of t) (eqb c 10))

  -- fed from the start, it writes what is promised
  pub whole-answered : (t : List ℕ) → whole M M.start t ≡ answered (answer_to M) t
  unfolding answered
  whole-answered t = rw (whole-from, from-start)
