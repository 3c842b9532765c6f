-- The rows judged one after the other by their keys: what is left decides.
use Rattle.std.specs.Prelude.{◌≡◌, refl, Bool, cond, not, ◌&&◌, List, eqb, drop, Ok, Err}
use Rattle.std.proofs.Common.{sym, ◌∙◌, ap, arith, ne_eqb}
use Rattle.std.proofs.Math.Bool.{true, false}
use Rattle.std.proofs.lemmas.Bool.{false≢true}
use Prim.Native.Nat.{ℕ, zero, suc, ◌+◌, ◌*◌, ◌-◌, ◌≤◌, ◌<◌}
use Rattle.std.proofs.Math.Numerals.{add-one}
use Rattle.bits.specs.Texts.{Bytes}
use Rattle.blocks.specs.declared.Block.{Block}
use Rattle.families.proofs.Published.{words1983}
use Rattle.fractions.specs.Fractions.{gcd}
use Rattle.outcomes.specs.BlockOrder.{block_below}
use Rattle.outcomes.proofs.BlockOrder.{block_below_lem}
use Rattle.refusals.specs.declared.Refusal.{Refusal}
use Rattle.spell.specs.declared.Spelled.{Spelled}
use Rattle.spell.specs.Spelling.{spelling}
use Rattle.spell.specs.Callers.{told-zero, told-key, key-spells}
use Rattle.tables.specs.declared.Row.{Row}
use Rattle.tables.specs.Rows.{row_of, rows_in}
use Rattle.tables.specs.Sound.{is_row, row_below, sound_behind, sound}
use Rattle.tables.proofs.Order.{row-positive}
use Rattle.tables.proofs.Numbers.{row-small, bytes_dropped}
use Rattle.tables.proofs.Tables.{rows_from, rows-next, rows-end}
use Rattle.judge.specs.Judging.{block_of_row, falls_at}

-- what spelling a row's ratio tells of the row
module _ (r : Row) where
  abbrev p : ℕ
  p = r.numerator

  abbrev q : ℕ
  q = r.denominator

  abbrev rest : Bool
  rest = eqb (gcd p q) 1 && not (eqb r.quantity 0)

  tested : (b : Bool) → cond b false rest ≡ (not b && rest)
  tested true = refl
  tested false = refl

  pub row-zero : {e : Refusal} → Err e ≡ spelling p q → is_row r ≡ false
  row-zero h = sym (told-zero p q false rest h ∙ tested (eqb q 0))

  module _ {s : Spelled} (h : Ok s ≡ spelling p q) where
    by_row : is_row r ≡ (eqb s.divisor 1 && not (eqb r.quantity 0))
    by_row = rw (key-spells p q h).divisor (sym (told-key p q false rest h ∙ tested (eqb q 0)))

    pub row_bad : false ≡ (eqb s.divisor 1 && not (eqb r.quantity 0)) → is_row r ≡ false
    row_bad e = by_row ∙ sym e

    pub row_good : true ≡ (eqb s.divisor 1 && not (eqb r.quantity 0))
        → (is_row r ≡ true) × (s.block ≡ block_of_row r)
    row_good e = (by_row ∙ sym e, (key-spells p q h).block)

-- row i
abbrev pub row_in : List ℕ → ℕ → Row
row_in m i = row_of (drop (12 * i) m)

-- what the rows from i on have to be, and last: the key of the row before them
abbrev pub left_at : List ℕ → ℕ → ℕ → Bool
left_at m used zero = sound (rows_from 12 m used 0)
left_at m used (suc j) = sound_behind (row_in m j) (rows_from 12 m used (suc j))

abbrev pub LastAt : List ℕ → ℕ → Block → Type 0
LastAt m zero last = Unit {0}
LastAt m (suc j) last = (last ≡ block_of_row (row_in m j)) × (1 ≤ (row_in m j).denominator)

-- what holds at each row
pub record Rising (m : List ℕ) (used : ℕ) (last : Block) (i : ℕ) : Type 0 where
  pub within : i ≤ used
  pub left : sound (rows_in 12 used m) ≡ left_at m used i
  pub before : LastAt m i last

pub rising-start : (m : List ℕ) (used : ℕ) (last : Block) → Rising m used last 0
rising-start m used last =
    let same : used - 0 ≡ used = omega arith in
    record { within = omega arith; left = rw same; before = tt }

pub rising-end : {m : List ℕ} {used : ℕ} {last : Block} (i : ℕ) → Rising m used last i → used ≤ i
    → sound (rows_in 12 used m) ≡ true
unfolding sound sound_behind
rising-end {m} {used} zero g h = g.left ∙ rw (rows-end 12 m used 0 h)
rising-end {m} {used} (suc i) g h = g.left ∙ rw (rows-end 12 m used (suc i) h)

module _ (m : List ℕ) (used : ℕ) (last : Block) where
  pub rising_unsound : (i : ℕ) → Rising m used last i → i < used → is_row (row_in m i) ≡ false
      → sound (rows_in 12 used m) ≡ false
  unfolding sound sound_behind
  rising_unsound zero g h e = g.left ∙ rw (rows-next 12 m used 0 h, e)
  rising_unsound (suc i) g h e = g.left ∙ rw (rows-next 12 m used (suc i) h, e)

  module _ (small : Bytes m) (b : Block) where
    -- keys stand as the rows do
    below-rows : (i : ℕ) → LastAt m (suc i) last → is_row (row_in m (suc i)) ≡ true
        → b ≡ block_of_row (row_in m (suc i))
        → block_below last b ≡ row_below (row_in m i) (row_in m (suc i))
    below-rows i k e f =
        let r = row_in m i in
        let s = row_in m (suc i) in
        let x = row-small (drop (12 * i) m) (bytes_dropped (12 * i) m small) in
        let y = row-small (drop (12 * suc i) m) (bytes_dropped (12 * suc i) m small) in
        rw (k.0, f)
        (block_below_lem words1983 r.numerator r.denominator s.numerator s.denominator k.1 (row-positive s e)
        x.numerator x.denominator y.numerator y.denominator)

    not-falls : (t u : Bool) → not t ≡ u → t ≡ not u
    not-falls true u e = ap not e
    not-falls false u e = ap not e

    pub rising-falls : (i : ℕ) → Rising m used last i → i < used
        → (is_row (row_in m i) ≡ true) × (b ≡ block_of_row (row_in m i)) → falls_at i last b ≡ true
        → sound (rows_in 12 used m) ≡ false
    unfolding sound sound_behind
    rising-falls zero g h k f = absurd (false≢true f)
    rising-falls (suc i) g h (good, same) f =
        let less = not-falls (block_below last b) true (rw (ne_eqb (suc i) 0 (λ z. omega arith)) at f) in
        g.left ∙ rw (rows-next 12 m used (suc i) h, good, ← below-rows i g.before good same, less)

    -- one row more
    pub rising-more : (i : ℕ) → Rising m used last i → i < used
        → (is_row (row_in m i) ≡ true) × (b ≡ block_of_row (row_in m i)) → falls_at i last b ≡ false
        → Rising m used b (i + 1)
    unfolding sound sound_behind
    rising-more zero g h (good, same) f = record {
      within = h;
      left = g.left ∙ rw (rows-next 12 m used 0 h, good);
      before = (same, row-positive (row_in m 0) good);
    }
    rising-more (suc i) g h (good, same) f =
        let less = not-falls (block_below last b) false (rw (ne_eqb (suc i) 0 (λ z. omega arith)) at f) in
        rw add-one record {
          within = h;
          left = g.left ∙ rw (rows-next 12 m used (suc i) h, good, ← below-rows i g.before good same, less);
          before = (same, row-positive (row_in m (suc i)) good);
        }
