-- Memory after a row was put, inserted or removed is the table of the rows that are left, byte for byte.
use Rattle.std.specs.Prelude.{◌≡◌, true, ℕ, ◌+◌, ◌*◌, ◌-◌, ◌≤◌, ◌<◌, drop}
use Rattle.std.proofs.Math.Path.{sym, ap}
use Rattle.std.proofs.Common.{◌∙◌, div-add-mod', mul-le-mul_left, take-append-drop, take_at, drop_at}
use mathlib.Core.List.{List, ◌∷◌, ◌++◌, append_assoc, append-nil}
use native.Mathlib.Omega.{arith}
use borrow.Author.Tests.{lt-ltb, le-ltb}
use Rattle.std.proofs.Math.ListN.{length, take, replicate, length-append}
use Rattle.std.proofs.lemmas.List.{length-replicate}
use Rattle.std.proofs.Math.Seq.{drop-drop}
use Rattle.bits.specs.Texts.{Bytes, in_front, pasted}
use Rattle.bits.proofs.Pasting.{pasted-behind, front_there}
use Rattle.tables.specs.declared.Row.{Row}
use Rattle.tables.specs.Rows.{Layout, row_size, room_of, row_bytes, table_bytes, row_of, rows_in, table_after}
use Rattle.tables.specs.Sound.{fitting}
use Rattle.tables.specs.Moves.{row_at, put_at, inserted_at, removed_at}
use Rattle.tables.proofs.Tables.{length-rows, length-row, length-table, table-append, table_there}

module _ (L : Layout) where
  abbrev w : ℕ
  w = row_size L

  -- rows that there is room for are within memory
  pub rows-within : (n : ℕ) (m : List ℕ) → n ≤ room_of L m → w * n ≤ length m
  rows-within n m h = omega (arith, mul-le-mul_left w h, div-add-mod' (length m) w)

  pub row_at_lem : (i : ℕ) (m : List ℕ) → i < room_of L m → row_at L i m ≡ row_of (drop (w * i) m)
  unfolding row_at
  row_at_lem i m h = rw (lt-ltb i (room_of L m) h)

  -- the used rows in two parts
  pub count : (used : ℕ) (m : List ℕ) (a c : List Row) → rows_in w used m ≡ a ++ c → used ≡ length a + length c
  count used m a c parts = sym (length-rows w used m) ∙ ap length parts ∙ length-append a c

  -- what stands behind other rows put in their place: zeros where rows went, and then what stood there
  pub table-behind : (used : ℕ) (m : List ℕ) (after : List Row) → let k = used - length after in
      drop (w * length after) (table_after L (rows_in w used m) after m)
      ≡ replicate (w * k) 0 ++ drop (w * (length after + k)) m
  table-behind used m after =
      let k = used - length after in
      let all : length (rows_in w used m) - length after ≡ k = rw length-rows in
      let size : length (table_bytes L after ++ replicate (w * k) 0) ≡ w * (length after + k) =
      rw (length-append, length-table, length-replicate) (omega arith) in
      rw (all, append_assoc, drop_at (table_bytes L after) _ (w * length after) (length-table L after), size)

  module _ (used : ℕ) (m : List ℕ) (room : used ≤ room_of L m) (small : Bytes m) (fit : fitting L used m ≡ true) where
    abbrev rows : List Row
    rows = rows_in w used m

    abbrev rest : List ℕ
    rest = drop (w * used) m

    -- no row goes
    table-same : (after : List Row) → used ≤ length after → table_after L rows after m ≡ in_front (table_bytes L after) m
    table-same after h =
        let none : length rows - length after ≡ 0 = omega (arith, length-rows w used m) in
        let no_bytes : w * 0 ≡ 0 = omega arith in
        rw (none, no_bytes, append-nil)

    -- rows in two parts
    module _ (a c : List Row) (parts : rows ≡ a ++ c) where
      abbrev at : ℕ
      at = w * length a

      there : m ≡ table_bytes L a ++ (table_bytes L c ++ rest)
      there =
          let whole = table_there L used m (rows-within used m room) small fit in
          sym (take-append-drop (w * used) m)
          ∙ ap (λ (t : List ℕ). t ++ rest) (sym whole ∙ ap (table_bytes L) parts ∙ table-append L a c)
          ∙ append_assoc (table_bytes L a) (table_bytes L c) rest

      front : take at m ≡ table_bytes L a
      front = ap (take at) there ∙ take_at (table_bytes L a) (table_bytes L c ++ rest) at (length-table L a)

      back : drop at m ≡ table_bytes L c ++ rest
      back = ap (drop at) there ∙ drop_at (table_bytes L a) (table_bytes L c ++ rest) at (length-table L a)

      -- a text put from there on
      pasted-rows : (t : List ℕ) → pasted t at m ≡ in_front (table_bytes L a ++ t) m
      pasted-rows t = pasted-behind (table_bytes L a) t m at (length-table L a) front

      pub memory_inserted : (i : ℕ) → length a ≡ i → used < room_of L m → (x : Row)
          → inserted_at L i used x m ≡ table_after L rows (a ++ (x ∷ c)) m
      unfolding inserted_at table_bytes
      memory_inserted i e free x =
          let all = count used m a c parts in
          let moved : used - length a ≡ length c = omega arith in
          let text : take (w * length c) (drop at m) ≡ table_bytes L c =
          rw back (take_at (table_bytes L c) rest (w * length c) (length-table L c)) in
          rw (← e, le-ltb used (length a) (omega arith), lt-ltb used (room_of L m) free, moved, text)
          (pasted-rows (row_bytes L x ++ table_bytes L c)
          ∙ ap (λ (t : List ℕ). in_front t m) (sym (table-append L a (x ∷ c)))
          ∙ sym (table-same (a ++ (x ∷ c)) (rw length-append (omega arith))))

    -- rows in two parts and one between them
    module _ (a b : List Row) (r : Row) (parts : rows ≡ a ++ (r ∷ b)) where
      behind : drop (w * (length a + 1)) m ≡ table_bytes L b ++ rest
      unfolding table_bytes
      behind =
          let one : w * (length a + 1) ≡ w * length a + w = omega arith in
          rw (one, ← drop-drop w (w * length a) m, back a (r ∷ b) parts, append_assoc)
          (drop_at (row_bytes L r) _ w (length-row L r))

      pub memory-put : (i : ℕ) → length a ≡ i → (x : Row) → put_at L i x m ≡ table_after L rows (a ++ (x ∷ b)) m
      unfolding put_at table_bytes
      memory-put i e x =
          let all = count used m a (r ∷ b) parts in
          let size : length (table_bytes L a ++ row_bytes L x) ≡ w * (length a + 1) =
          rw (length-append, length-row, length-table) (omega arith) in
          let whole : table_bytes L a ++ row_bytes L x ++ table_bytes L b ≡ table_bytes L (a ++ (x ∷ b)) =
          rw (table-append L a (x ∷ b)) (append_assoc (table_bytes L a) (row_bytes L x) (table_bytes L b)) in
          rw (← e, lt-ltb (length a) (room_of L m) (omega arith))
          (pasted-rows a (r ∷ b) parts (row_bytes L x)
          ∙ sym (front_there (table_bytes L a ++ row_bytes L x) (table_bytes L b) m (w * (length a + 1)) size _ behind)
          ∙ ap (λ (t : List ℕ). in_front t m) whole
          ∙ sym (table-same (a ++ (x ∷ b)) (rw length-append (omega arith))))

      pub memory_removed : (i : ℕ) → length a ≡ i → removed_at L i used m ≡ table_after L rows (a ++ b) m
      unfolding removed_at
      memory_removed i e =
          let all = count used m a (r ∷ b) parts in
          let moved : used - (length a + 1) ≡ length b = omega arith in
          let text : take (w * length b) (drop (w * (length a + 1)) m) ≡ table_bytes L b =
          rw behind (take_at (table_bytes L b) rest (w * length b) (length-table L b)) in
          let one : length rows - length (a ++ b) ≡ 1 = rw (length-rows, length-append) (omega arith) in
          let zeros : w * 1 ≡ w = omega arith in
          rw (← e, lt-ltb (length a) used (omega arith), le-ltb (room_of L m) used room, moved, text, one, zeros)
          (pasted-rows a (r ∷ b) parts (table_bytes L b ++ replicate w 0)
          ∙ ap (λ (t : List ℕ). in_front t m) (sym (append_assoc (table_bytes L a) (table_bytes L b) (replicate w 0))
          ∙ ap (λ (t : List ℕ). t ++ replicate w 0) (sym (table-append L a b))))
