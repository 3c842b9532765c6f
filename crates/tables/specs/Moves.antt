-- A row read, put, inserted and removed in memory, by its index. Where memory has no such row, nothing is done.
use Rattle.std.specs.Prelude.{cond, List, ◌++◌, ℕ, ◌+◌, ◌*◌, ◌-◌, ltb, take, drop, replicate}
use Rattle.bits.specs.Texts.{pasted}
use Rattle.tables.specs.declared.Row.{Row}
use Rattle.tables.specs.Rows.{Layout, row_size, room_of, row_bytes, row_of}

module _ (L : Layout) where
  abbrev w : ℕ
  w = row_size L

  -- row i, and a row of zeros where there is none
  unfoldable pub row_at : ℕ → List ℕ → Row
  row_at i m = cond (ltb i (room_of L m)) (row_of (drop (w * i) m)) (record { numerator = 0; denominator = 0; quantity = 0 })

  -- r as row i
  unfoldable pub put_at : ℕ → Row → List ℕ → List ℕ
  put_at i r m = cond (ltb i (room_of L m)) (pasted (row_bytes L r) (w * i) m) m

  -- r as row i, and the rows from i to used moved up by one
  unfoldable pub inserted_at : ℕ → ℕ → Row → List ℕ → List ℕ
  inserted_at i used r m =
      cond (ltb used i) m
      (cond (ltb used (room_of L m)) (pasted (row_bytes L r ++ take (w * (used - i)) (drop (w * i) m)) (w * i) m) m)

  -- the rows behind row i moved down by one, and zeros as the last used row
  unfoldable pub removed_at : ℕ → ℕ → List ℕ → List ℕ
  removed_at i used m =
      cond (ltb i used)
      (cond (ltb (room_of L m) used) m
      (pasted (take (w * (used - (i + 1))) (drop (w * (i + 1)) m) ++ replicate w 0) (w * i) m))
      m
