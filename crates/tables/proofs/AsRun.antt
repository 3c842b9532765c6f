-- Rows put in, taken out, looked up and judged, by running the definitions.
use Rattle.std.specs.Prelude.{◌≡◌, refl, true, false, List, [], ◌∷◌, ◌++◌, map, ℕ, replicate}
use Rattle.blocks.specs.Bytewise.{low_bytes}
use Rattle.fractions.specs.Fractions.{divided_from, gcd, lowest_terms}
use Rattle.tables.specs.declared.Row.{Row}
use Rattle.tables.specs.Rows.{row_bytes, table_bytes, table_after}
use Rattle.tables.specs.Layouts.{stock_rows}
use Rattle.tables.specs.Sound.{sound, sound_behind}
use Rattle.tables.specs.Stocks.{passed, index_of, held_of, stocked, drawn}

abbrev row : ℕ → ℕ → ℕ → Row
row p q n = record { numerator = p; denominator = q; quantity = n }

abbrev two : List Row
two = row 1 3 5 ∷ row 1 2 4 ∷ []

changes : stocked 2 4 1 two ∷ stocked 0 5 1 two ∷ stocked 4 10 1 two ∷ stocked 3 1 9 two ∷ drawn 2 6 4 two ∷ drawn 1 3 5 two ∷ []
    ≡ (row 1 3 5 ∷ row 1 2 5 ∷ [])
    ∷ (row 0 1 1 ∷ row 1 3 5 ∷ row 1 2 4 ∷ [])
    ∷ (row 1 3 5 ∷ row 2 5 1 ∷ row 1 2 4 ∷ [])
    ∷ (row 1 3 5 ∷ row 1 2 4 ∷ row 3 1 9 ∷ [])
    ∷ (row 1 3 1 ∷ row 1 2 4 ∷ [])
    ∷ (row 1 2 4 ∷ [])
    ∷ []
unfolding stocked drawn lowest_terms gcd divided_from
changes = refl

-- how many rows are below 0, 1/3, 2/5, 1/2 and 1; and what is held of 2/4 and 2/5
lookups : (index_of 0 1 two ∷ index_of 1 3 two ∷ index_of 2 5 two ∷ index_of 1 2 two ∷ index_of 1 1 two ∷ []
    ≡ 0 ∷ 0 ∷ 1 ∷ 1 ∷ 2 ∷ []) × (held_of 2 4 two ∷ held_of 2 5 two ∷ [] ≡ 4 ∷ 0 ∷ [])
unfolding passed held_of
lookups = (refl, refl)

-- rising; falling, equal, by numerators alone, a common factor, no denominator, no quantity
judging : map sound
    (two ∷ (row 1 2 4 ∷ row 1 3 5 ∷ []) ∷ (row 1 2 4 ∷ row 1 2 5 ∷ []) ∷ (row 1 2 4 ∷ row 2 5 1 ∷ []) ∷ (row 2 4 1 ∷ [])
    ∷ (row 1 0 1 ∷ []) ∷ (row 1 2 0 ∷ []) ∷ [])
    ≡ true ∷ false ∷ false ∷ false ∷ false ∷ false ∷ false ∷ []
unfolding sound sound_behind gcd divided_from
judging = refl

-- a row that went is zeroed, and what stands behind the used rows stays
memory : table_after stock_rows two (row 1 2 4 ∷ []) (replicate 26 7)
    ≡ (1 ∷ 0 ∷ 0 ∷ 0 ∷ 2 ∷ 0 ∷ 0 ∷ 0 ∷ 4 ∷ 0 ∷ 0 ∷ 0 ∷ []) ++ (replicate 12 0 ++ (7 ∷ 7 ∷ []))
unfolding table_bytes row_bytes low_bytes
memory = refl
