-- Calls of a stock table one after the other, and what they put in and took out.
use Rattle.std.specs.Prelude.{◌≡◌, cond, List, [], ◌∷◌, ℕ, ◌+◌, ◌≤◌, eqb, get_or}
use Rattle.keys.specs.Size.{limit}
use Rattle.tables.specs.declared.Row.{Row}
use Rattle.tables.specs.Rows.{Layout, row_size, rows_in}
use Rattle.tables.specs.Stocks.{share, stocked, drawn}
use Rattle.outcomes.specs.Outcomes.{Outcome, Answer}
use Rattle.outcomes.specs.Stocking.{Call, put_in, take_out, find, list_from, stock_call}

-- the count of used rows that the caller keeps, and memory
pub record State : Type 0 where
  pub used : ℕ
  pub memory : List ℕ

-- no row is used yet
abbrev pub empty_in : List ℕ → State
empty_in m = record { used = 0; memory = m }

abbrev pub rows_of : Layout → State → List Row
rows_of L s = rows_in (row_size L) s.used s.memory

abbrev pub outcome_of : Layout → Call → State → Outcome
outcome_of L c s = stock_call L c s.used s.memory

-- n where the call was accepted, else the other
abbrev pub if_accepted : Outcome → ℕ → ℕ → ℕ
if_accepted o n other = cond (eqb o.refusal 0) n other

-- the caller's count of used rows after a call: an accepted put or take gives the new one
abbrev pub used_after : Call → ℕ → List ℕ → ℕ
used_after (put_in p q n) used values = get_or values 0 0
used_after (take_out p q n) used values = get_or values 0 0
used_after (find p q) used values = used
used_after (list_from p q) used values = used

abbrev pub stepped_by : Call → State → Outcome → State
stepped_by c s o =
    record { used = if_accepted o (used_after c s.used o.values) s.used; memory = o.memory }

abbrev pub stepped : Layout → Call → State → State
stepped L c s = stepped_by c s (outcome_of L c s)

-- the rows after a call
abbrev pub changed : Call → List Row → List Row
changed (put_in p q n) rows = stocked p q n rows
changed (take_out p q n) rows = drawn p q n rows
changed (find p q) rows = rows
changed (list_from p q) rows = rows

abbrev pub rows_after : Call → List Row → Outcome → List Row
rows_after c rows o = cond (eqb o.refusal 0) (changed c rows) rows

unfoldable pub after : Layout → List Call → State → State
after L [] s = s
after L (c ∷ l) s = after L l (stepped L c s)

-- what each call gave
unfoldable pub ran : Layout → List Call → State → List Outcome
ran L [] s = []
ran L (c ∷ l) s = outcome_of L c s ∷ ran L l (stepped L c s)

-- the same without memory
abbrev pub answer_of : Outcome → Answer
answer_of o = record { refusal = o.refusal; values = o.values }

unfoldable pub answers : Layout → List Call → State → List Answer
answers L [] s = []
answers L (c ∷ l) s = answer_of (outcome_of L c s) ∷ answers L l (stepped L c s)

-- what a call puts in and takes out of p/q
abbrev pub put_by : ℕ → ℕ → Call → ℕ
put_by p q (put_in r s n) = share p q r s n
put_by p q (take_out r s n) = 0
put_by p q (find r s) = 0
put_by p q (list_from r s) = 0

abbrev pub taken_by : ℕ → ℕ → Call → ℕ
taken_by p q (put_in r s n) = 0
taken_by p q (take_out r s n) = share p q r s n
taken_by p q (find r s) = 0
taken_by p q (list_from r s) = 0

-- a number of each call, summed over the accepted ones
unfoldable pub total : Layout → (Call → ℕ) → List Call → State → ℕ
total L f [] s = 0
total L f (c ∷ l) s = if_accepted (outcome_of L c s) (f c) 0 + total L f l (stepped L c s)

-- no more than n rows are used at any time
abbrev pub Under : Layout → ℕ → List Call → State → Type 0
Under L n [] s = s.used ≤ n
Under L n (c ∷ l) s = (s.used ≤ n) × Under L n l (stepped L c s)

-- every byte is zero
abbrev pub Zeros : List ℕ → Type 0
Zeros [] = Unit {0}
Zeros (c ∷ m) = (c ≡ 0) × Zeros m

-- numbers of 32 bits in every call
abbrev pub Numbers : Call → Type 0
Numbers (put_in p q n) = (p ≤ limit) × (q ≤ limit)
Numbers (take_out p q n) = (p ≤ limit) × (q ≤ limit)
Numbers (find p q) = (p ≤ limit) × (q ≤ limit)
Numbers (list_from p q) = (p ≤ limit) × (q ≤ limit)

abbrev pub AllNumbers : List Call → Type 0
AllNumbers [] = Unit {0}
AllNumbers (c ∷ l) = Numbers c × AllNumbers l
