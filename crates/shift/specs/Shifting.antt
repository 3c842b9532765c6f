-- A row inserted is the rows behind it raised and then the row put; a row removed is those lowered and then zeros put.
use Rattle.std.specs.Prelude.{◌≡◌, List, ℕ, ◌+◌, ◌*◌, ◌-◌, ◌/◌, ◌≤◌, ◌<◌, length, take, drop, replicate}
use Rattle.std.specs.List.{copy_within}
use Rattle.std.proofs.Common.{◌∙◌, ap, append_assoc, arith, length-drop, length-take-le, drop-drop}
use borrow.Author.Tests.{lt-ltb, le-ltb}
use Rattle.bits.specs.Texts.{pasted}
use Rattle.bits.proofs.Pasting.{pasted-more, pasted-before, pasted-length}
use Rattle.tables.specs.declared.Row.{Row}
use Rattle.tables.specs.Layouts.{stock_rows}
use Rattle.tables.specs.Rows.{row_bytes}
use Rattle.tables.proofs.Tables.{length-row}
use Rattle.tables.specs.Moves.{put_at, inserted_at, removed_at}

-- bytes copied within memory are pasted
copied : (m : List ℕ) (a n at : ℕ) {e : ℕ} → e ≡ a + n → a + n ≤ length m
    → let text = take n (drop a m) in (length text ≡ n) × (copy_within m a e at ≡ pasted text at m)
copied m a n at {e} f h =
    let size : length (take n (drop a m)) ≡ n = length-take-le n (drop a m) (rw length-drop (omega arith)) in
    let bytes : e - a ≡ n = omega arith in
    (size, rw (size, bytes, drop-drop, append_assoc))

module _ (i used : ℕ) (m : List ℕ) where
  pub inserted : i ≤ used → used < length m / 12 → (r : Row) {l o : List ℕ}
      → l ≡ copy_within m (12 * i) (12 * used) (12 * (i + 1))
      → o ≡ put_at stock_rows i r l → o ≡ inserted_at stock_rows i used r m
  unfolding inserted_at put_at
  inserted h room r {l} e f =
      let n = 12 * (used - i) in
      let text = take n (drop (12 * i) m) in
      let behind : 12 * (i + 1) ≡ 12 * i + 12 = omega arith in
      let (size, moved) = copied m (12 * i) n (12 * i + 12) {e = 12 * used} (omega arith) (omega arith) in
      let raised : l ≡ pasted text (12 * i + 12) m = (rw behind at e) ∙ moved in
      let same : length l ≡ length m =
      ap length raised ∙ pasted-length (12 * i + 12) m (omega arith) text (omega arith) in
      let there : i < length l / 12 = rw same (omega arith) in
      rw (le-ltb used i h, lt-ltb used (length m / 12) room)
      ((rw (lt-ltb i (length l / 12) there) at f)
      ∙ ap (pasted (row_bytes stock_rows r) (12 * i)) raised
      ∙ pasted-before (row_bytes stock_rows r) text m (12 * i) 12 (length-row stock_rows r) (omega arith))

  pub removed : i < used → used ≤ length m / 12 → {l o : List ℕ}
      → l ≡ copy_within m (12 * (i + 1)) (12 * used) (12 * i)
      → o ≡ pasted (replicate 12 0) (12 * (used - 1)) l → o ≡ removed_at stock_rows i used m
  unfolding removed_at
  removed h room {l} e f =
      let n = 12 * (used - (i + 1)) in
      let text = take n (drop (12 * (i + 1)) m) in
      let last : 12 * (used - 1) ≡ 12 * i + n = omega arith in
      let (size, moved) = copied m (12 * (i + 1)) n (12 * i) {e = 12 * used} (omega arith) (omega arith) in
      rw (lt-ltb i used h, le-ltb (length m / 12) used room)
      ((rw last at f)
      ∙ ap (pasted (replicate 12 0) (12 * i + n)) (e ∙ moved)
      ∙ pasted-more (12 * i) m (omega arith) text (replicate 12 0) n size)
