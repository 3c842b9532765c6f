-- The laws of a stretch, and that the output is the same however the input is cut into stretches.
use Rattle.std.specs.Prelude.{◌≡◌, Bool, ℕ, ◌+◌, ◌-◌, ◌≤◌, ◌<◌, eqb, ltb, take, drop}
use Rattle.std.proofs.Math.Path.{refl, sym, ap}
use Rattle.std.proofs.Common.{◌∙◌, zero-add, add_assoc, length-append, take-append-drop}
use Rattle.std.proofs.Math.Bool.{true, false, cond}
use mathlib.Core.List.{List, [], ◌∷◌, ◌++◌, append_assoc, append-nil}
use Rattle.std.proofs.Math.Numerals.{one-add}
use native.Mathlib.Omega.{arith}
use borrow.Author.Tests.{ltb-true, ltb-false, lt-ltb, le-ltb, eqb-true, eqb-false, ne_eqb}
use Rattle.std.proofs.Math.ListN.{length}
use Rattle.std.proofs.Math.Seq.{drop-append-le}
use Rattle.lines.specs.Lines.{answered}
use Rattle.lines.specs.Machines.{Machine, Stretch, behind, answer_to, whole, untouched, stretched, lacking, run}
use Rattle.lines.proofs.Answering.{whole-answered}

-- behind nothing a stretch is as it is
pub behind_none : {S : Type 0} (r : Stretch S) → behind 0 [] r ≡ r
behind_none r = rw zero-add

-- behind one text and then another it is behind both
pub behind-behind : {S : Type 0} (n m : ℕ) (a b : List ℕ) (r : Stretch S)
    → behind n a (behind m b r) ≡ behind (n + m) (a ++ b) r
behind-behind n m a b r = rw (add_assoc, append_assoc)

module _ (M : Machine) where
  module _ (room : ℕ) (s : M.State) (c : ℕ) (t : List ℕ) where
    -- a newline, where the longest answer doesn't fit
    pub stretch-full : c ≡ 10 → room < M.longest → stretched M room s (c ∷ t) ≡ untouched M s
    unfolding stretched
    stretch-full e h = simp (e, lt-ltb room M.longest h)

    -- a newline, where it does
    pub stretch-answers : c ≡ 10 → M.longest ≤ room → stretched M room s (c ∷ t)
        ≡ behind 1 (M.answer s) (stretched M (room - length (M.answer s)) M.start t)
    unfolding stretched
    stretch-answers e h = simp (e, le-ltb room M.longest h)

    -- a byte of a line
    pub stretch_feeds : (c ≡ 10 → ⊥) → stretched M room s (c ∷ t) ≡ behind 1 [] (stretched M room (M.fed s c) t)
    unfolding stretched
    stretch_feeds n = simp (ne_eqb c 10 n)

  -- by which of these three a stretch goes on
  by_byte : {A : Type 0} (room c : ℕ) → (c ≡ 10 → room < M.longest → A) → (c ≡ 10 → M.longest ≤ room → A)
      → ((c ≡ 10 → ⊥) → A) → A
  by_byte {A = A} room c full answers feeds = by_tests (eqb c 10) (ltb room M.longest) refl refl
    where
      by_tests : (b f : Bool) → eqb c 10 ≡ b → ltb room M.longest ≡ f → A
      by_tests true true e l = full (eqb-true c 10 e) (ltb-true room M.longest l)
      by_tests true false e l = answers (eqb-true c 10 e) (ltb-false room M.longest l)
      by_tests false f e l = feeds (eqb-false c 10 e)

  -- it takes no more than it is handed
  pub stretch-read : (room : ℕ) (s : M.State) (t : List ℕ) → (stretched M room s t).taken ≤ length t
  unfolding stretched
  stretch-read room s [] = omega arith
  stretch-read room s (c ∷ t) =
      let left = room - length (M.answer s) in
      by_byte room c
      (λ e h. rw (stretch-full room s c t e h) (omega arith))
      (λ e h. rw (stretch-answers room s c t e h) (omega (arith, stretch-read left M.start t)))
      (λ n. rw (stretch_feeds room s c t n) (omega (arith, stretch-read room (M.fed s c) t)))

  -- it writes no more than there is room for
  pub stretch-fits : (room : ℕ) (s : M.State) (t : List ℕ) → length (stretched M room s t).text ≤ room
  unfolding stretched
  stretch-fits room s [] = omega arith
  stretch-fits room s (c ∷ t) =
      let left = room - length (M.answer s) in
      by_byte room c
      (λ e h. rw (stretch-full room s c t e h) (omega arith))
      (λ e h. rw (stretch-answers room s c t e h, length-append)
      (omega (arith, M.within s, stretch-fits left M.start t)))
      (λ n. rw (stretch_feeds room s c t n) (stretch-fits room (M.fed s c) t))

  -- where there is room for the longest answer, it takes something
  pub stretch-some : (room : ℕ) (s : M.State) (t : List ℕ) → M.longest ≤ room → 1 ≤ length t
      → 1 ≤ (stretched M room s t).taken
  stretch-some room s [] h l = absurd (omega arith)
  stretch-some room s (c ∷ t) h l =
      by_byte room c (λ e r. absurd (omega arith)) (λ e r. rw (stretch-answers room s c t e r) (omega arith))
      (λ n. rw (stretch_feeds room s c t n) (omega arith))

  -- all that is written is what a stretch writes, and then what is written from its state on for what it left
  pub stretch-rest : (room : ℕ) (s : M.State) (t u : List ℕ) → let r = stretched M room s t in
      whole M s (t ++ u) ≡ r.text ++ whole M r.state (drop r.taken t ++ u)
  unfolding stretched whole
  stretch-rest room s [] u = refl
  stretch-rest room s (c ∷ t) u =
      let left = room - length (M.answer s) in
      by_byte room c
      (λ e h. rw (stretch-full room s c t e h))
      (λ e h. rw (stretch-answers room s c t e h, e, one-add, append_assoc, stretch-rest left M.start t u))
      (λ n. rw (stretch_feeds room s c t n, ne_eqb c 10 n, one-add) (stretch-rest room (M.fed s c) t u))

  -- what the end of the input writes
  pub lacking_said : (room : ℕ) (s : M.State) → M.longest ≤ room
      → (stretched M room s (lacking M s)).text ≡ whole M s []
  unfolding stretched whole
  lacking_said room s h = by_test (M.blank s)
    where
      by_test : (b : Bool) → (stretched M room s (cond b [] (10 ∷ []))).text ≡ cond b [] (M.answer s)
      by_test true = refl
      by_test false = rw (stretch-answers room s 10 [] refl h, append-nil)

  -- the turns write what is written where all is fed at once
  run-whole : (s : M.State) (t : List ℕ) (turns : List (ℕ × ℕ)) → run M s t turns ≡ whole M s t
  unfolding run
  run-whole s t [] = refl
  run-whole s t ((n, room) ∷ turns) =
      let r = stretched M room s (take n t) in
      ap (λ l. r.text ++ l) (run-whole r.state (drop r.taken t) turns)
      ∙ sym (rw (← drop-append-le r.taken (take n t) (drop n t) (stretch-read room s (take n t)), take-append-drop)
      at (stretch-rest room s (take n t) (drop n t)))

  -- however the input is cut into stretches, and whatever room they have, the output is the same
  pub run-answered : (t : List ℕ) (turns : List (ℕ × ℕ)) → run M M.start t turns ≡ answered (answer_to M) t
  run-answered t turns = run-whole M.start t turns ∙ whole-answered M t
