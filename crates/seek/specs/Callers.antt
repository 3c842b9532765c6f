-- What seeking p/q tells a call of the table: its outcome where table or ratio have a fault, and else the rows in parts
-- and that the rest of its refusals decide. A call that seeks by `?` cites `told_on` at the exit, with
-- `c.in_err-NAME.ensures` and `c.from_residual.ensures.1`; behind the `?`, `told-here` and `told-absent` take
-- `c.in_ok-NAME.ensures`, rewritten by the arm's `.is`.
use Rattle.std.specs.Prelude.{◌≡◌, Bool, true, false, cond, not, ◌&&◌, ◌||◌, List, [], ◌∷◌, eqb, ltb, length, drop}
use Rattle.std.specs.Prelude.{Result, Ok, Err}
use Rattle.std.proofs.Math.Path.{refl}
use Rattle.std.proofs.Common.{◌∙◌, ap, arith, ltb-false, eq-eqb, ne_eqb, drop_at}
use Prim.Native.Nat.{ℕ, ◌*◌, ◌≤◌, ◌<◌}
use Rattle.std.proofs.lemmas.Bool.{eqb-false}
use Rattle.std.specs.Result.{IsErrAnd}
use Rattle.fractions.specs.Fractions.{◌over◌, lowest_terms}
use Rattle.tables.specs.declared.Row.{Row}
use Rattle.tables.specs.Layouts.{stock_rows}
use Rattle.tables.specs.Rows.{row_size, room_of, rows_in}
use Rattle.tables.specs.Sound.{sound, fitting}
use Rattle.tables.specs.Stocks.{index_of}
use Rattle.tables.proofs.Moved.{count}
use Rattle.tables.specs.Order.{Above}
use Rattle.tables.proofs.Order.{sound_facts}
use Rattle.tables.proofs.Parts.{Here as Found, Absent as Missing, Parted, here, absent, parted}
use Rattle.outcomes.specs.Outcomes.{Outcome, leaves, refuses, called}
use Rattle.outcomes.specs.Stocking.{wrong_table, Call, find, denominator_of}
use Rattle.outcomes.specs.Stocking.{stock_refusals, stock_values, stock_memory, stock_call}
use Rattle.judge.specs.Callers.{Fine}
use Rattle.refusals.specs.declared.Refusal as reasons
use Rattle.refusals.specs.declared.Refusal.TheVariants.{ZeroDenominator, WrongSize, UnsoundTable}
use Rattle.refusals.specs.Numbers.{number_of}
use Rattle.refusals.specs.Answers.{answered}
use Rattle.fractions.specs.declared.Fraction.{Fraction}
use Rattle.seek.specs.declared.Sought.{Sought}
use Rattle.seek.specs.declared.Sought.TheVariants.{Here, Absent}
use Rattle.seek.specs.Seeking.{sought_at, sought}

module _ (used p q : ℕ) (m : List ℕ) where
  abbrev rows : List Row
  rows = rows_in (row_size stock_rows) used m

  module _ (c : Call) (same : denominator_of c ≡ q) where
    abbrev values : List ℕ
    values = stock_values rows c

    abbrev whole : Outcome
    whole = stock_call stock_rows c used m

    -- what is left to refuse
    abbrev rest : Outcome
    rest = called (stock_refusals (room_of stock_rows m) rows c) values m (stock_memory stock_rows rows c m)

    -- the rows in parts, in a sound table
    abbrev Tells_place : Outcome → Sought → Type 0
    Tells_place o (Here i r) = Fine used m × (Found p q rows i r × (rest ≡ o))
    Tells_place o (Absent i f) =
        Fine used m
        × (Missing p q rows i × (((f.numerator over f.denominator) ≡ lowest_terms p q) × (rest ≡ o)))

    abbrev Tells : Outcome → Result Sought reasons.Refusal → Type 0
    Tells o (Ok s) = Tells_place o s
    Tells o (Err e) = refuses (number_of e) (length values) m ≡ o

    told_place : Fine used m → Parted p q rows
        → let i = index_of p q rows in Tells_place rest (sought_at p q i (drop i rows))
    told_place fine (here {i} {r} h) =
        let there : drop i rows ≡ r ∷ h.behind =
        ap (drop i) h.parts ∙ drop_at h.before (r ∷ h.behind) i h.index in
        rw (h.place, there, eq-eqb (r.numerator * q) (p * r.denominator) h.ratio) (fine, (h, refl))
    told_place fine (absent {i} h) =
        let there : drop i rows ≡ h.behind = ap (drop i) h.parts ∙ drop_at h.before h.behind i h.index in
        rw (h.place, there) (by_rows h.behind h.above)
      where
        by_rows : (l : List Row) → Above p q l → Tells_place rest (sought_at p q i l)
        by_rows [] a = (fine, (h, (refl, refl)))
        by_rows (x ∷ l) (less, a) =
            rw (ne_eqb (x.numerator * q) (p * x.denominator) (λ e. omega arith)) (fine, (h, (refl, refl)))

    told : (r : Result Sought reasons.Refusal) → r ≡ sought used p q m → Tells whole r
    unfolding sought stock_call
    told r e =
        rw (e, same) (by_tests (wrong_table stock_rows m).1 (ltb (room_of stock_rows m) used) (sound rows)
        (fitting stock_rows used m) (eqb q 0) refl refl refl refl)
      where
        i : ℕ
        i = index_of p q rows

        refused : ℕ → Outcome
        refused n = refuses n (length values) m

        by_tests : (w o t f z : Bool) → ltb (room_of stock_rows m) used ≡ o → sound rows ≡ t
            → fitting stock_rows used m ≡ f → eqb q 0 ≡ z
            → Tells (cond w (refused 2) (cond (o || not (t && f)) (refused 16) (cond z (refused 1) rest)))
            (cond w (Err WrongSize) (cond (o || not (t && f)) (Err UnsoundTable)
            (cond z (Err ZeroDenominator) (Ok (sought_at p q i (drop i rows))))))
        by_tests true o t f z a b d c = refl
        by_tests false true t f z a b d c = refl
        by_tests false false false f z a b d c = refl
        by_tests false false true false z a b d c = refl
        by_tests false false true true true a b d c = refl
        by_tests false false true true false a b d c =
            told_place (record { within = ltb-false (room_of stock_rows m) used a; rows = b; fits = d })
            (parted p q rows (omega (arith, eqb-false q 0 c)) (sound_facts rows b))

    pub told_refused : {e : reasons.Refusal} → Err e ≡ sought used p q m
        → refuses (number_of e) (length values) m ≡ whole
    told_refused {e} h = told (Err e) h

    -- the same of a result r that a `?` hands on
    pub told_on : {X : Type 0} (said : X → List ℕ) (r : Result X reasons.Refusal) {e : reasons.Refusal}
        → Err e ≡ sought used p q m → IsErrAnd r (λ d. d ≡ e) → leaves (answered (length values) said r) m ≡ whole
    told_on said (Ok x) h f = absurd f
    told_on said (Err d) h f = rw f (told_refused h)

    pub told-here : {i : ℕ} {r : Row} → Ok (Here i r) ≡ sought used p q m
        → Fine used m × (Found p q rows i r × (rest ≡ whole))
    told-here {i} {r} h = told (Ok (Here i r)) h

    pub told-absent : {i : ℕ} {f : Fraction} → Ok (Absent i f) ≡ sought used p q m
        → Fine used m
        × (Missing p q rows i × (((f.numerator over f.denominator) ≡ lowest_terms p q) × (rest ≡ whole)))
    told-absent {i} {f} h = told (Ok (Absent i f)) h

    -- wherever the ratio stands
    pub told-rest : (s : Sought) → Ok s ≡ sought used p q m → rest ≡ whole
    told-rest (Here i r) h = (told-here h).1.1
    told-rest (Absent i f) h = (told-absent h).1.1.1

  -- the place is within the used rows, and these within the room
  pub here-within : {i : ℕ} {r : Row} → Ok (Here i r) ≡ sought used p q m
      → (i < used) × (used ≤ room_of stock_rows m)
  here-within {i} {r} e =
      let (fine, (h, rest)) = told-here (find p q) refl e in
      let all = count stock_rows used m h.before (r ∷ h.behind) h.parts in
      (omega (arith, h.index), fine.within)

  pub absent-within : {i : ℕ} {f : Fraction} → Ok (Absent i f) ≡ sought used p q m
      → (i ≤ used) × (used ≤ room_of stock_rows m)
  absent-within e =
      let (fine, (h, rest)) = told-absent (find p q) refl e in
      let all = count stock_rows used m h.before h.behind h.parts in
      (omega (arith, h.index), fine.within)
