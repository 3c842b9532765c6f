-- Rows in lent memory: three numbers of four bytes each, lowest first, and behind them what the layout puts there.
use Rattle.std.specs.Prelude.{◌≡◌, List, [], ◌∷◌, ◌++◌, ℕ, zero, suc, ◌+◌, ◌*◌, ◌-◌, ◌/◌, length, take, drop, replicate}
use Rattle.bits.specs.Texts.{in_front}
use Rattle.blocks.specs.Bytewise.{low_bytes}
use Rattle.tables.specs.declared.Row.{Row}

-- what stands behind the three numbers of a row of p/q
pub record Layout : Type 0 where
  pub size : ℕ
  pub behind : ℕ → ℕ → List ℕ
  pub fits : (p q : ℕ) → length (behind p q) ≡ size

abbrev pub row_size : Layout → ℕ
row_size L = 12 + L.size

-- how many whole rows memory has room for
abbrev pub room_of : Layout → List ℕ → ℕ
room_of L m = length m / row_size L

-- the bytes of a row
abbrev pub number_bytes : Row → List ℕ
number_bytes r = low_bytes 4 r.numerator ++ (low_bytes 4 r.denominator ++ low_bytes 4 r.quantity)

unfoldable pub row_bytes : Layout → Row → List ℕ
row_bytes L r = number_bytes r ++ L.behind r.numerator r.denominator

-- the bytes of rows, one after the other
unfoldable pub table_bytes : Layout → List Row → List ℕ
table_bytes L [] = []
table_bytes L (r ∷ l) = row_bytes L r ++ table_bytes L l

-- the number whose bytes these are, lowest first
unfoldable pub low_number : List ℕ → ℕ
low_number [] = 0
low_number (c ∷ l) = c + 256 * low_number l

-- the numbers of the row at the front of memory
unfoldable pub row_of : List ℕ → Row
row_of m = record {
  numerator = low_number (take 4 m);
  denominator = low_number (take 4 (drop 4 m));
  quantity = low_number (take 4 (drop 8 m));
}

-- the first n rows, each of w bytes
unfoldable pub rows_in : ℕ → ℕ → List ℕ → List Row
rows_in w zero m = []
rows_in w (suc n) m = row_of m ∷ rows_in w n (drop w m)

-- memory of a table of some rows with other rows in their place: where these are fewer, the room left over is zeroed
abbrev pub table_after : Layout → List Row → List Row → List ℕ → List ℕ
table_after L rows after m =
    in_front (table_bytes L after ++ replicate (row_size L * (length rows - length after)) 0) m
