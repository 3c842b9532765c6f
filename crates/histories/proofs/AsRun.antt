-- Two histories of a stock table come out by running the definitions.
use Rattle.std.specs.Prelude.{◌≡◌, refl, List, [], ◌∷◌, ◌++◌, ℕ, replicate}
use Rattle.families.proofs.Published.{words1983}
use Rattle.families.specs.Words.{digits_from, digits_after_one, word_of}
use Rattle.keys.specs.Keys.{key_of}
use Rattle.blocks.specs.Bytewise.{low_bytes}
use Rattle.fractions.specs.Fractions.{divided_from, gcd, lowest_terms, form_of, usual}
use Rattle.tables.specs.Rows.{low_number, row_of, rows_in, row_bytes, table_bytes}
use Rattle.tables.specs.Layouts.{plain, with_column}
use Rattle.tables.specs.Sound.{sound, sound_behind, fitting}
use Rattle.tables.specs.Stocks.{passed, held_of, stocked, drawn}
use Rattle.outcomes.specs.Outcomes.{gives, refuses}
use Rattle.outcomes.specs.Stocking.{put_in, take_out, find, list_from, stock_call}
use Rattle.histories.specs.Histories.{ran}

four : ℕ → List ℕ
four n = n ∷ 0 ∷ 0 ∷ 0 ∷ []

row : ℕ → ℕ → ℕ → List ℕ
row p q n = four p ++ (four q ++ four n)

history : ran plain
    (put_in 1 2 3 ∷ put_in 1 3 5 ∷ put_in 2 4 1 ∷ put_in 3 1 9 ∷ take_out 1 3 5 ∷ list_from 0 1 ∷ list_from 2 3
    ∷ find 1 3 ∷ [])
    (record { used = 0; memory = replicate 24 7 })
    ≡ gives (1 ∷ 0 ∷ 3 ∷ []) (row 1 2 3 ++ replicate 12 7)
    ∷ gives (2 ∷ 0 ∷ 5 ∷ []) (row 1 3 5 ++ row 1 2 3)
    ∷ gives (2 ∷ 1 ∷ 4 ∷ []) (row 1 3 5 ++ row 1 2 4)
    ∷ refuses 11 3 (row 1 3 5 ++ row 1 2 4)
    ∷ gives (1 ∷ 0 ∷ 0 ∷ []) (row 1 2 4 ++ replicate 12 0)
    ∷ gives (1 ∷ 0 ∷ 1 ∷ 2 ∷ 4 ∷ []) (row 1 2 4 ++ replicate 12 0)
    ∷ gives (0 ∷ 0 ∷ 0 ∷ 0 ∷ 0 ∷ []) (row 1 2 4 ++ replicate 12 0)
    ∷ refuses 12 2 (row 1 2 4 ++ replicate 12 0)
    ∷ []
unfolding fitting four row ran stock_call rows_in row_of low_number low_bytes row_bytes table_bytes sound sound_behind passed
    held_of stocked drawn
    lowest_terms gcd divided_from
history = refl

-- with columns: 19/44 is put before 1/2
columns : ran (with_column words1983) (put_in 1 2 3 ∷ put_in 19 44 5 ∷ find 1 2 ∷ [])
    (record { used = 0; memory = replicate 48 7 })
    ≡ gives (1 ∷ 0 ∷ 3 ∷ []) (row 1 2 3 ++ ((0x40 ∷ replicate 11 0) ++ replicate 24 7))
    ∷ gives (2 ∷ 0 ∷ 5 ∷ []) (row 19 44 5 ++ ((0x3a ∷ 0x60 ∷ replicate 10 0) ++ (row 1 2 3 ++ (0x40 ∷ replicate 11 0))))
    ∷ gives (1 ∷ 3 ∷ []) (row 19 44 5 ++ ((0x3a ∷ 0x60 ∷ replicate 10 0) ++ (row 1 2 3 ++ (0x40 ∷ replicate 11 0))))
    ∷ []
unfolding fitting four row ran stock_call rows_in row_of low_number low_bytes row_bytes table_bytes sound sound_behind passed
    held_of stocked drawn
    lowest_terms gcd divided_from key_of form_of usual word_of digits_after_one digits_from
columns = refl
