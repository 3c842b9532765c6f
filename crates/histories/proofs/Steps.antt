-- One call of a stock table: a table that no call refuses by 2 or 16 stays such, and each ratio's balance is kept.
use Rattle.std.specs.Prelude.{◌≡◌, refl, true, false, ◌&&◌, ◌⊎◌, eqb, length, drop}
use Rattle.std.proofs.Common.{sym, ◌∙◌, ap, true≢false, inl, inr, arith, ltb-false, eq-eqb, ne_eqb, length-append}
use mathlib.Core.List.{List, ◌∷◌}
use Prim.Native.Nat.{ℕ, ◌+◌, ◌*◌, ◌≤◌}
use Rattle.std.proofs.lemmas.Bool.{eqb-false}
use Rattle.keys.specs.Size.{limit}
use Rattle.tables.specs.declared.Row.{Row}
use Rattle.tables.specs.Rows.{Layout, row_size, room_of, table_after}
use Rattle.tables.specs.Stocks.{held_of, stocked, drawn}
use Rattle.tables.specs.Order.{Sound}
use Rattle.tables.proofs.Held.{held-stocked, held-drawn}
use Rattle.tables.proofs.Kept.{sound-stocked, sound-drawn, length-drawn}
use Rattle.tables.proofs.Tables.{length-rows, AllSmall}
use Rattle.tables.proofs.Parts.{Parted, here, absent, parted}
use Rattle.tables.proofs.Sizes.{small_new, small-more, small_added, small-drawn}
use Rattle.outcomes.specs.Outcomes.{Outcome, Refusal, gives, called}
use Rattle.outcomes.specs.Refusals.{zero_denominator}
use Rattle.outcomes.specs.Laws.{Clear}
use Rattle.outcomes.proofs.Laws.{numbered, given_or_refused, gives-clear, called-kept}
use Rattle.outcomes.specs.Stocking.{Call, put_in, take_out, find, list_from, denominator_of}
use Rattle.outcomes.specs.Stocking.{wrong_table, unsound_table, stock_refusals}
use Rattle.outcomes.specs.Stocking.{stock_values, stock_memory, stock_call}
use Rattle.histories.specs.Histories.{State, rows_of, outcome_of, if_accepted, used_after, changed, rows_after}
use Rattle.histories.specs.Histories.{stepped_by, put_by, taken_by, Numbers, Zeros}
use Rattle.histories.proofs.Holding.{Holds, next_size, next_unused, next-zeros, next-rows, holds-next}

not_both : (a b c d : ℕ) → (eqb a b && eqb c d) ≡ false → a ≡ b → c ≡ d → ⊥
not_both a b c d e f g = true≢false (sym (rw (eq-eqb a b f, eq-eqb c d g)) ∙ e)

module _ (L : Layout) where
  abbrev w : ℕ
  w = row_size L

  -- a call from s with outcome o: the table stays as it should be, and each ratio's balance is kept
  pub record Steps (c : Call) (s : State) (o : Outcome) : Type 0 where
    pub next : Holds L (stepped_by c s o)
    pub rows : rows_of L (stepped_by c s o) ≡ rows_after c (rows_of L s) o
    pub size : length o.memory ≡ length s.memory
    pub unused : (n : ℕ) → s.used ≤ n → (stepped_by c s o).used ≤ n → drop (w * n) o.memory ≡ drop (w * n) s.memory
    pub zeros : Zeros (drop (w * s.used) s.memory) → Zeros (drop (w * (stepped_by c s o).used) o.memory)
    pub balance : (p q : ℕ) → 1 ≤ q → held_of p q (rows_of L (stepped_by c s o)) + if_accepted o (taken_by p q c) 0
        ≡ held_of p q (rows_of L s) + if_accepted o (put_by p q c) 0

  steps-refused : (c : Call) (s : State) (o : Outcome) → Holds L s → (o.refusal ≡ 0 → ⊥) → o.memory ≡ s.memory
      → Steps c s o
  steps-refused c s o h e f =
      let same : stepped_by c s o ≡ s = rw (ne_eqb o.refusal 0 e, f) in
      record {
        next = rw same h;
        rows = ap (rows_of L) same ∙ rw (ne_eqb o.refusal 0 e);
        size = ap length f;
        unused = λ n a b. rw f;
        zeros = λ z. rw (ne_eqb o.refusal 0 e, f) z;
        balance = λ p q k.
            ap (λ (x : State). held_of p q (rows_of L x) + if_accepted o (taken_by p q c) 0) same
            ∙ rw (ne_eqb o.refusal 0 e);
      }

  module _ (s : State) (h : Holds L s) where
    abbrev rows : List Row
    rows = rows_of L s

    abbrev given : Call → Outcome
    given c = gives (stock_values rows c) (stock_memory L rows c s.memory)

    -- other rows, of which each ratio's balance holds
    steps_to : (after : List Row) → Sound after → AllSmall after × (length after ≤ room_of L s.memory)
        → (c : Call) (v : List ℕ) → used_after c s.used (length after ∷ v) ≡ length after → changed c rows ≡ after
        → ((p q : ℕ) → 1 ≤ q → held_of p q after + taken_by p q c ≡ held_of p q rows + put_by p q c)
        → Steps c s (gives (length after ∷ v) (table_after L rows after s.memory))
    steps_to after fine (small, room) c v e d f = record {
      next = rw e (holds-next L s h after room fine small);
      rows = rw (e, next-rows L s h after room small) (sym d);
      size = next_size L s h after room;
      unused = λ n a b. next_unused L s h after room n a (rw e at b);
      zeros = λ z. rw e (next-zeros L s h after room z);
      balance = λ p q k. rw (e, next-rows L s h after room small) (f p q k);
    }

    put-fits : (r t n : ℕ) → (r ≤ limit) × (t ≤ limit) → 1 ≤ t → held_of r t rows + n ≤ limit
        → (held_of r t rows ≡ 0 → length rows ≡ room_of L s.memory → ⊥)
        → AllSmall (stocked r t n rows) × (length (stocked r t n rows) ≤ room_of L s.memory)
    put-fits r t n (a, b) k x y = by_part (parted r t rows k h.rows)
      where
        by_part : Parted r t rows
            → AllSmall (stocked r t n rows) × (length (stocked r t n rows) ≤ room_of L s.memory)
        by_part (here g) =
            let all = length-rows w s.used s.memory in (
              small-more r t n rows h.small g x,
              rw (g.more n, length-append)
                  (omega (arith, h.within, rw length-append at (ap length g.parts))),
            )
        by_part (absent g) =
            let all = length-rows w s.used s.memory in (
              small_added r t n rows h.small g (small_new r t n k a b (omega arith)),
              rw (g.more n, length-append)
                  (omega (arith, h.within, y g.held, rw length-append at (ap length g.parts))),
            )

    steps-put : (r t n : ℕ) → Numbers (put_in r t n) → 1 ≤ t
        → Clear (stock_refusals (room_of L s.memory) rows (put_in r t n))
        → Steps (put_in r t n) s (given (put_in r t n))
    steps-put r t n b positive (k, (x, (y, u))) =
        let some : 1 ≤ n = omega (arith, eqb-false n 0 k) in
        steps_to (stocked r t n rows) (sound-stocked r t positive n rows some h.rows)
        (put-fits r t n b positive (ltb-false limit (held_of r t rows + n) x) (not_both _ _ _ _ y))
        (put_in r t n) _ refl refl
        (λ p q g. omega (arith, held-stocked p q r t g positive n rows h.rows))

    steps-take : (r t n : ℕ) → 1 ≤ t → Clear (stock_refusals (room_of L s.memory) rows (take_out r t n))
        → Steps (take_out r t n) s (given (take_out r t n))
    steps-take r t n positive (k, (x, (y, u))) =
        let enough : n ≤ held_of r t rows = ltb-false (held_of r t rows) n y in
        let few : length (drawn r t n rows) ≤ room_of L s.memory =
        omega (arith, length-drawn r t n rows, length-rows w s.used s.memory, h.within) in
        steps_to (drawn r t n rows) (sound-drawn r t n rows h.rows) (small-drawn r t n rows h.small, few)
        (take_out r t n) _ refl refl
        (λ p q g. omega (arith, held-drawn p q r t g positive n rows h.rows enough))

    steps-read : (c : Call) (v : List ℕ) → used_after c s.used v ≡ s.used → changed c rows ≡ rows
        → ((p q : ℕ) → taken_by p q c ≡ put_by p q c) → Steps c s (gives v s.memory)
    steps-read c v e d f = record {
      next = rw e h;
      rows = rw e (sym d);
      size = refl;
      unused = λ n a b. refl;
      zeros = λ z. rw e z;
      balance = λ p q g. rw (e, f p q);
    }

    steps-given : (c : Call) → Numbers c → 1 ≤ denominator_of c → Clear (stock_refusals (room_of L s.memory) rows c)
        → Steps c s (given c)
    steps-given (put_in r t n) b z e = steps-put r t n b z e
    steps-given (take_out r t n) b z e = steps-take r t n z e
    steps-given (find r t) b z e = steps-read (find r t) _ refl refl (λ p q. refl)
    steps-given (list_from r t) b z e = steps-read (list_from r t) _ refl refl (λ p q. refl)

  pub numbers : (room : ℕ) (rows : List Row) (c : Call) → numbered (stock_refusals room rows c) ≡ true
  numbers room rows (put_in r t n) = refl
  numbers room rows (take_out r t n) = refl
  numbers room rows (find r t) = refl
  numbers room rows (list_from r t) = refl

  pub steps : (c : Call) (s : State) → Numbers c → Holds L s → Steps c s (outcome_of L c s)
  unfolding stock_call
  steps c s b h = by_outcome (given_or_refused order values m end (numbers (room_of L m) rows c))
    where
      m : List ℕ
      m = s.memory

      rows : List Row
      rows = rows_of L s

      order : List Refusal
      order =
          wrong_table L m ∷ unsound_table L s.used m ∷ zero_denominator (denominator_of c)
          ∷ stock_refusals (room_of L m) rows c

      values : List ℕ
      values = stock_values rows c

      end : List ℕ
      end = stock_memory L rows c m

      by_outcome : (called order values m end ≡ gives values end) ⊎ ((called order values m end).refusal ≡ 0 → ⊥)
          → Steps c s (called order values m end)
      by_outcome (inl e) =
          let (clear, rest) = gives-clear order values m end (numbers (room_of L m) rows c) values end e in
          let (some, more) = clear.1.1 in
          rw e (steps-given s h c b (omega (arith, eqb-false (denominator_of c) 0 some)) more)
      by_outcome (inr e) = steps-refused c s _ h e (called-kept order values m end e).0
