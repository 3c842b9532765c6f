-- What seeking answers, by what spelling and judging gave.
use Rattle.std.specs.Prelude.{◌≡◌, true, false, cond, List, [], ◌∷◌, ℕ, suc, ◌/◌, ◌≤◌, ◌<◌, eqb, drop, Result, Ok, Err}
use Rattle.std.proofs.Common.{sym, ◌∙◌, ap, arith}
use Rattle.bits.specs.Texts.{Bytes}
use Rattle.blocks.specs.declared.Block.{Block}
use Rattle.fractions.specs.declared.Fraction.{Fraction}
use Rattle.fractions.specs.Fractions.{lowest_terms}
use Rattle.keys.specs.Size.{limit}
use Rattle.refusals.specs.declared.Refusal.{Refusal}
use Rattle.refusals.specs.declared.Refusal.TheVariants.{ZeroDenominator}
use Rattle.spell.specs.declared.Spelled.{Spelled}
use Rattle.spell.specs.Spelling.{spelling}
use Rattle.spell.specs.Callers.{Spells, told-zero, told-key, zero-spells, key-spells}
use Rattle.tables.specs.declared.Row.{Row}
use Rattle.tables.specs.Layouts.{stock_rows}
use Rattle.tables.specs.Rows.{row_size, rows_in}
use Rattle.tables.specs.Stocks.{index_of}
use Rattle.tables.specs.Moves.{row_at}
use Rattle.tables.proofs.Moved.{row_at_lem}
use Rattle.tables.specs.Order.{Sound}
use Rattle.tables.proofs.Order.{sound_facts, sound-row}
use Rattle.tables.proofs.Tables.{rows_from, rows-small, rows-drop, rows-next, rows-end}
use Rattle.judge.specs.Judging.{judged}
use Rattle.judge.specs.Callers.{Fine, told_refused, told-sound}
use Rattle.seek.specs.declared.Sought.{Sought}
use Rattle.seek.specs.declared.Sought.TheVariants.{Here, Absent}
use Rattle.seek.specs.Seeking.{same_terms, absent_at, sought_at, sought}
use Rattle.seek.specs.Finding.{key_index, terms_tell}

module _ (used p q : ℕ) (m : List ℕ) where
  abbrev w : ℕ
  w = row_size stock_rows

  abbrev rows : List Row
  rows = rows_in w used m

  abbrev i : ℕ
  i = index_of p q rows

  -- what is sought in a sound table
  abbrev rest : Result Sought Refusal
  rest = cond (eqb q 0) (Err ZeroDenominator) (Ok (sought_at p q i (drop i rows)))

  module _ (k : Block) where
    pub sought_refused : {e : Refusal} → Err e ≡ judged k used m → Err e ≡ sought used p q m
    unfolding sought
    sought_refused h = told_refused k used m Err rest h

    module _ {x : ℕ} (fair : Ok x ≡ judged k used m) where
      fine : Fine used m
      fine = (told-sound k used m Err rest fair).1.0

      whole : rest ≡ sought used p q m
      unfolding sought
      whole = (told-sound k used m Err rest fair).1.1

      pub sought-zero : {e : Refusal} → Err e ≡ spelling p q → Err e ≡ sought used p q m
      sought-zero {e} h =
          rw (zero-spells p q h) (told-zero p q (Err ZeroDenominator) (Ok (sought_at p q i (drop i rows))) h ∙ whole)

      module _ (small : Bytes m) (a : p ≤ limit) (b : q ≤ limit) {s : Spelled} (e : Ok s ≡ spelling p q)
          (same : k ≡ s.block) where
        spells : Spells p q s
        spells = key-spells p q e

        facts : Sound rows
        facts = sound_facts rows fine.rows

        placed : x ≡ i
        placed =
            (told-sound k used m Err rest fair).0
            ∙ rw (same, spells.block) (key_index p q spells.positive a b rows facts (rows-small w used m small))

        known : Ok (sought_at p q i (drop i rows)) ≡ sought used p q m
        known = told-key p q (Err ZeroDenominator) (Ok (sought_at p q i (drop i rows))) e ∙ whole

        -- lowest terms by the divisor
        abbrev fraction : Fraction
        fraction = record { numerator = p / s.divisor; denominator = q / s.divisor }

        absent : sought_at p q i (drop i rows) ≡ absent_at p q i → Ok (Absent x fraction) ≡ sought used p q m
        unfolding lowest_terms
        absent g = rw (placed, spells.divisor) (ap Ok (sym g) ∙ known)

        pub sought-end : used ≤ x → Ok (Absent x fraction) ≡ sought used p q m
        sought-end h =
            let none : drop i rows ≡ [] = rw (← placed) (rows-drop w used x m ∙ rows-end w m used x h) in
            absent (rw none)

        module _ {row : Row} (h : x < used) (g : row ≡ row_at stock_rows x m) where
          there : drop i rows ≡ row ∷ rows_from w m used (suc x)
          there =
              rw (← placed, g, row_at_lem stock_rows x m (omega (arith, fine.within)))
              (rows-drop w used x m ∙ rows-next w m used x h)

          tells : same_terms row (lowest_terms p q).num (lowest_terms p q).den
              ≡ same_terms row fraction.numerator fraction.denominator
          unfolding lowest_terms
          tells = rw spells.divisor

          -- the row at the place is of the ratio where it has its terms
          at-row : sought_at p q i (drop i rows)
              ≡ cond (same_terms row fraction.numerator fraction.denominator) (Here i row) (absent_at p q i)
          at-row = rw (there, terms_tell p q spells.positive row (sound-row i rows facts there), tells)

          pub sought-other : false ≡ same_terms row fraction.numerator fraction.denominator
              → Ok (Absent x fraction) ≡ sought used p q m
          sought-other t = absent (at-row ∙ rw (← t))

          pub sought-here : true ≡ same_terms row fraction.numerator fraction.denominator
              → Ok (Here x row) ≡ sought used p q m
          sought-here t =
              let here : sought_at p q i (drop i rows) ≡ Here i row = at-row ∙ rw (← t) in
              rw placed (ap Ok (sym here) ∙ known)
