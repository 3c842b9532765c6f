-- What spelling a row's ratio tells of a row that isn't one: its ratio isn't in lowest terms, or it holds nothing.
use Rattle.std.specs.Prelude.{◌≡◌, false, ℕ, Ok}
use Rattle.std.proofs.Common.{eq-eqb, ne_eqb}
use Rattle.spell.specs.declared.Spelled.{Spelled}
use Rattle.spell.specs.Spelling.{spelling}
use Rattle.tables.specs.declared.Row.{Row}
use Rattle.tables.specs.Sound.{is_row}
use Rattle.judge.specs.Rising.{row_bad}

-- what spelling a row's ratio tells of the row
module _ (r : Row) where
  abbrev p : ℕ
  p = r.numerator

  abbrev q : ℕ
  q = r.denominator

  module _ {s : Spelled} (e : Ok s ≡ spelling p q) where
    pub row_common : (s.divisor ≡ 1 → ⊥) → is_row r ≡ false
    row_common h = row_bad r e (rw (ne_eqb s.divisor 1 h))

    pub row_none : s.divisor ≡ 1 → r.quantity ≡ 0 → is_row r ≡ false
    row_none h z = row_bad r e (rw (eq-eqb s.divisor 1 h, eq-eqb r.quantity 0 z))
