-- What putting in and taking out change, row by row; and which row is the first from a ratio on.
use Rattle.std.specs.Prelude.{◌≡◌, List, [], ◌∷◌, ◌++◌, ℕ, ◌+◌, ◌*◌, ◌≤◌, ◌<◌, length}
use Rattle.tables.specs.declared.Row.{Row}
use Rattle.tables.specs.Stocks.{row_for, with_quantity}

-- a row is of p/q, no row is, and every row is below it
abbrev pub Of : ℕ → ℕ → Row → Type 0
Of p q r = r.numerator * q ≡ p * r.denominator

abbrev pub NoneOf : ℕ → ℕ → List Row → Type 0
NoneOf p q [] = Unit {0}
NoneOf p q (r ∷ l) = (Of p q r → ⊥) × NoneOf p q l

abbrev pub AllBelow : ℕ → ℕ → List Row → Type 0
AllBelow p q [] = Unit {0}
AllBelow p q (r ∷ l) = (r.numerator * q < p * r.denominator) × AllBelow p q l

-- row i of rows is r; a stand before it and b behind
pub record RowAt (rows : List Row) (i : ℕ) (a : List Row) (r : Row) (b : List Row) : Type 0 where
  pub parts : rows ≡ a ++ (r ∷ b)
  pub index : length a ≡ i

-- n of p/q put in: row i is its row then, and holds h; every other row is as it was
pub data PutIn (p q n : ℕ) (rows after : List Row) (i h : ℕ) : Type 0 where
  added : (a b : List Row) (r : Row) → RowAt rows i a r b → Of p q r → h ≡ r.quantity + n
      → after ≡ a ++ (with_quantity h r ∷ b) → PutIn p q n rows after i h
  made : (a b : List Row) → rows ≡ a ++ b → length a ≡ i → NoneOf p q rows → h ≡ n
      → after ≡ a ++ (row_for p q n ∷ b) → PutIn p q n rows after i h

-- n of p/q taken out of row i, which is its row: h are left there, or none and the row is gone
pub data TakenOut (p q n : ℕ) (rows after : List Row) (i h : ℕ) : Type 0 where
  lowered : (a b : List Row) (r : Row) → RowAt rows i a r b → Of p q r → r.quantity ≡ h + n → 1 ≤ h
      → after ≡ a ++ (with_quantity h r ∷ b) → TakenOut p q n rows after i h
  gone : (a b : List Row) (r : Row) → RowAt rows i a r b → Of p q r → r.quantity ≡ n → h ≡ 0 → after ≡ a ++ b
      → TakenOut p q n rows after i h

-- row i is the row of p/q, and holds h
pub record RowOf (p q : ℕ) (rows : List Row) (i h : ℕ) : Type 0 where
  pub before : List Row
  pub behind : List Row
  pub row : Row
  pub there : RowAt rows i before row behind
  pub of : Of p q row
  pub holds : row.quantity ≡ h

-- row i, which is r, is the first that isn't below p/q
pub record FirstFrom (p q : ℕ) (rows : List Row) (i : ℕ) (r : Row) : Type 0 where
  pub before : List Row
  pub behind : List Row
  pub there : RowAt rows i before r behind
  pub below : AllBelow p q before
  pub not_below : p * r.denominator ≤ r.numerator * q
