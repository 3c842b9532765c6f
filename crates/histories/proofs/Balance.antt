-- After any calls from an empty table its rows are sound, and hold what accepted calls put in less what they took out.
use Rattle.std.specs.Prelude.{◌≡◌, false, ℕ, ◌+◌, ◌*◌, ◌≤◌, ◌<◌, length, drop, get_or}
use Rattle.std.proofs.Math.Path.{refl}
use Rattle.std.proofs.Common.{◌∙◌, arith}
use mathlib.Core.List.{List, [], ◌∷◌}
use Rattle.tables.specs.declared.Row.{Row}
use Rattle.tables.specs.Rows.{Layout, row_size, rows_in}
use Rattle.tables.specs.Stocks.{held_of}
use Rattle.tables.proofs.Held.{held-at}
use Rattle.tables.proofs.Tables.{length-rows}
use Rattle.outcomes.specs.Laws.{Clear}
use Rattle.outcomes.specs.Stocking.{Call, wrong_table, unsound_table}
use Rattle.histories.specs.Histories.{empty_in, State, rows_of, stepped, after, put_by, taken_by, total}
use Rattle.histories.specs.Histories.{Under, Zeros, AllNumbers}
use Rattle.histories.proofs.Holding.{Holds, holds_empty, holds-clear}
use Rattle.histories.proofs.Steps.{steps}

module _ (L : Layout) where
  pub holds-after : (calls : List Call) (s : State) → AllNumbers calls → Holds L s → Holds L (after L calls s)
  unfolding after
  holds-after [] s b h = h
  holds-after (c ∷ l) s (b, d) h = holds-after l (stepped L c s) d (steps L c s b h).next

  balance_after : (p q : ℕ) → 1 ≤ q → (calls : List Call) (s : State) → AllNumbers calls → Holds L s
      → held_of p q (rows_of L (after L calls s)) + total L (taken_by p q) calls s
      ≡ held_of p q (rows_of L s) + total L (put_by p q) calls s
  unfolding after total
  balance_after p q k [] s b h = refl
  balance_after p q k (c ∷ l) s (b, d) h =
      let one = steps L c s b h in
      omega (arith, one.balance p q k, balance_after p q k l (stepped L c s) d one.next)

  -- from an empty table
  pub balance : (p q : ℕ) → 1 ≤ q → (calls : List Call) (m : List ℕ) → AllNumbers calls → (wrong_table L m).1 ≡ false
      → let empty = empty_in m in
      held_of p q (rows_of L (after L calls empty)) + total L (taken_by p q) calls empty ≡ total L (put_by p q) calls empty
  unfolding rows_in held_of
  balance p q k calls m b e =
      let empty = empty_in m in
      omega (arith, balance_after p q k calls empty b (holds_empty L m e))

  -- no call of such a history refuses by 2 or 16
  pub sound-after : (calls : List Call) (m : List ℕ) → AllNumbers calls → (wrong_table L m).1 ≡ false
      → let s = after L calls (empty_in m) in
      Clear (wrong_table L s.memory ∷ unsound_table L s.used s.memory ∷ [])
  sound-after calls m b e =
      let s = after L calls (empty_in m) in
      let h : Holds L s = holds-after calls (empty_in m) b (holds_empty L m e) in
      (h.table, (holds-clear L s h, tt))

  -- each row's quantity is what was put in of its ratio less what was taken out
  pub row_balance : (calls : List Call) (m : List ℕ) → AllNumbers calls → (wrong_table L m).1 ≡ false
      → (i : ℕ) (none : Row) → let empty = empty_in m in
      let s = after L calls empty in
      let r = get_or (rows_of L s) i none in
      i < s.used → r.quantity + total L (taken_by r.numerator r.denominator) calls empty
      ≡ total L (put_by r.numerator r.denominator) calls empty
  row_balance calls m b e i none h =
      let empty = empty_in m in
      let s = after L calls empty in
      let r = get_or (rows_of L s) i none in
      let fine : Holds L s = holds-after calls empty b (holds_empty L m e) in
      let within : i < length (rows_of L s) = rw (length-rows (row_size L) s.used s.memory) h in
      let (held, some) = held-at none (rows_of L s) i fine.rows within in
      rw held at (balance r.numerator r.denominator some calls m b e)

  under-first : (n : ℕ) (calls : List Call) (s : State) → Under L n calls s → s.used ≤ n
  under-first n [] s u = u
  under-first n (c ∷ l) s (u, v) = u

  -- what stands behind them stays
  pub unused_after : (n : ℕ) (calls : List Call) (s : State) → AllNumbers calls → Holds L s → Under L n calls s
      → drop (row_size L * n) (after L calls s).memory ≡ drop (row_size L * n) s.memory
  unfolding after
  unused_after n [] s b h u = refl
  unused_after n (c ∷ l) s (b, d) h (u, v) =
      let one = steps L c s b h in
      unused_after n l (stepped L c s) d one.next v ∙ one.unused n u (under-first n l (stepped L c s) v)

  -- zeros behind the used rows stay
  pub zeros-after : (calls : List Call) (s : State) → AllNumbers calls → Holds L s
      → Zeros (drop (row_size L * s.used) s.memory)
      → let t = after L calls s in Zeros (drop (row_size L * t.used) t.memory)
  unfolding after
  zeros-after [] s b h z = z
  zeros-after (c ∷ l) s (b, d) h z =
      let one = steps L c s b h in zeros-after l (stepped L c s) d one.next (one.zeros z)
