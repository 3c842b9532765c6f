-- A stock table answers alike in every layout: answers follow the rows alone.
use Rattle.std.specs.Prelude.{◌≡◌, true, false, cond, ℕ, ◌/◌, eqb}
use Rattle.std.proofs.Math.Path.{refl}
use Rattle.std.proofs.Common.{sym, ◌∙◌, ap}
use mathlib.Core.List.{List, [], ◌∷◌}
use Rattle.tables.specs.declared.Row.{Row}
use Rattle.tables.specs.Rows.{Layout, row_size, room_of, rows_in}
use Rattle.outcomes.specs.Outcomes.{Answer, Refusal, called}
use Rattle.outcomes.specs.Refusals.{zero_denominator}
use Rattle.outcomes.specs.Stocking.{Call, denominator_of, wrong_table, stock_refusals}
use Rattle.outcomes.specs.Stocking.{stock_values, stock_memory, stock_call}
use Rattle.histories.specs.Histories.{empty_in, State, rows_of, outcome_of, stepped, changed, answer_of, answers}
use Rattle.histories.specs.Histories.{Numbers, AllNumbers}
use Rattle.histories.proofs.Holding.{Holds, holds_empty, holds-clear}
use Rattle.histories.proofs.Steps.{steps}

-- an answer doesn't depend on memory
called-answer : (order : List Refusal) (values a b c d : List ℕ)
    → answer_of (called order values a b) ≡ answer_of (called order values c d)
called-answer [] v a b c d = refl
called-answer ((n, true) ∷ l) v a b c d = refl
called-answer ((n, false) ∷ l) v a b c d = called-answer l v a b c d

-- what is left to refuse where the table has no fault
abbrev order_of : ℕ → List Row → Call → List Refusal
order_of room rows c = zero_denominator (denominator_of c) ∷ stock_refusals room rows c

holds-called : (L : Layout) (c : Call) (s : State) → Holds L s
    → outcome_of L c s
    ≡ called (order_of (room_of L s.memory) (rows_of L s) c) (stock_values (rows_of L s) c) s.memory
    (stock_memory L (rows_of L s) c s.memory)
unfolding stock_call
holds-called L c s h = rw (h.table, holds-clear L s h)

module _ (L M : Layout) where
  -- as many rows of room, and the same rows
  pub record Alike (s t : State) : Type 0 where
    pub left : Holds L s
    pub right : Holds M t
    pub rows : rows_of L s ≡ rows_of M t
    pub room : room_of L s.memory ≡ room_of M t.memory

  alike-answer : (c : Call) (s t : State) → Alike s t → answer_of (outcome_of L c s) ≡ answer_of (outcome_of M c t)
  alike-answer c s t a =
      ap answer_of (holds-called L c s a.left)
      ∙ (λ i. answer_of (called (order_of (a.room i) (a.rows i) c) (stock_values (a.rows i) c) s.memory
      (stock_memory L (rows_of L s) c s.memory)))
      ∙ called-answer (order_of (room_of M t.memory) (rows_of M t) c) (stock_values (rows_of M t) c) _ _ _ _
      ∙ sym (ap answer_of (holds-called M c t a.right))

  alike-next : (c : Call) (s t : State) → Numbers c → Alike s t → Alike (stepped L c s) (stepped M c t)
  alike-next c s t b a =
      let x = steps L c s b a.left in
      let y = steps M c t b a.right in
      let same = ap (λ (r : Answer). r.refusal) (alike-answer c s t a) in
      record {
        left = x.next;
        right = y.next;
        rows = x.rows ∙ (λ i. cond (eqb (same i) 0) (changed c (a.rows i)) (a.rows i)) ∙ sym y.rows;
        room = ap (λ (n : ℕ). n / row_size L) x.size ∙ a.room ∙ sym (ap (λ (n : ℕ). n / row_size M) y.size);
      }

  pub answers-alike : (calls : List Call) (s t : State) → AllNumbers calls → Alike s t
      → answers L calls s ≡ answers M calls t
  unfolding answers
  answers-alike [] s t b a = refl
  answers-alike (c ∷ l) s t (b, d) a = λ i.
      alike-answer c s t a i ∷ answers-alike l (stepped L c s) (stepped M c t) d (alike-next c s t b a) i

  -- from empty tables with room for as many rows
  pub answers-same : (calls : List Call) (k m : List ℕ) → AllNumbers calls → (wrong_table L k).1 ≡ false
      → (wrong_table M m).1 ≡ false → room_of L k ≡ room_of M m
      → answers L calls (empty_in k) ≡ answers M calls (empty_in m)
  unfolding rows_in
  answers-same calls k m b e f g =
      answers-alike calls (empty_in k) (empty_in m) b
      (record { left = holds_empty L k e; right = holds_empty M m f; rows = refl; room = g })
