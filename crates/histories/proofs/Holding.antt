-- Stock tables that no call refuses by 2 or 16: the empty one, and one whose rows were put in place of such a table's.
use Rattle.std.specs.Prelude.{◌≡◌, false, true, List, [], ◌∷◌, ◌++◌, ℕ, zero, suc, ◌+◌, ◌*◌, ◌-◌, ◌≤◌, length, drop, replicate}
use Rattle.std.proofs.Math.Path.{refl}
use Rattle.std.proofs.Common.{◌∙◌, ap, append_assoc, div-add-mod', mul-le-mul_left, arith, le-ltb, length-append, length-drop, drop-drop}
use Rattle.std.proofs.lemmas.List.{length-replicate}
use Rattle.std.proofs.Math.Seq.{drop-append-add}
use Rattle.bits.specs.Texts.{in_front}
use Rattle.tables.specs.declared.Row.{Row}
use Rattle.tables.specs.Rows.{Layout, row_size, room_of, rows_in, table_bytes, table_after}
use Rattle.tables.specs.Sound.{fitting}
use Rattle.tables.specs.Order.{Sound}
use Rattle.tables.proofs.Order.{facts_sound}
use Rattle.tables.proofs.Moved.{table-behind}
use Rattle.tables.proofs.Tables.{length-rows, AllSmall, rows_back, fits_back, length-table}
use Rattle.outcomes.specs.Stocking.{wrong_table, unsound_table}
use Rattle.histories.specs.Histories.{empty_in, State, rows_of, Zeros}

-- sound rows within room, whose numbers have 32 bits
pub record Holds (L : Layout) (s : State) : Type 0 where
  pub table : (wrong_table L s.memory).1 ≡ false
  pub within : s.used ≤ room_of L s.memory
  pub rows : Sound (rows_of L s)
  pub small : AllSmall (rows_of L s)
  pub fits : fitting L s.used s.memory ≡ true

room_for : (w r n l k : ℕ) → l + k ≤ r → w * r ≤ n → w * l + w * k ≤ n
room_for w r n l k h e = omega (arith, mul-le-mul_left w h)

zeros-drop : (n : ℕ) (m : List ℕ) → Zeros m → Zeros (drop n m)
zeros-drop zero m z = z
zeros-drop (suc n) [] z = tt
zeros-drop (suc n) (c ∷ m) (e, z) = zeros-drop n m z

-- zeros before zeros
zeros-more : (n : ℕ) (m : List ℕ) → Zeros m → Zeros (replicate n 0 ++ m)
zeros-more zero m z = z
zeros-more (suc n) m z = (refl, zeros-more n m z)

-- what stands behind a text at the front
drop-front : (t m : List ℕ) (n : ℕ) → length t ≤ n → drop n (in_front t m) ≡ drop n m
drop-front t m n h =
    let all : n ≡ length t + (n - length t) = omega arith in
    rw all (drop-append-add t (drop (length t) m) (n - length t) ∙ drop-drop (n - length t) (length t) m)

module _ (L : Layout) where
  abbrev w : ℕ
  w = row_size L

  pub holds_empty : (m : List ℕ) → (wrong_table L m).1 ≡ false → Holds L (empty_in m)
  unfolding rows_in fitting
  holds_empty m e = record { table = e; within = omega arith; rows = tt; small = tt; fits = refl }

  pub holds-clear : (s : State) → Holds L s → (unsound_table L s.used s.memory).1 ≡ false
  holds-clear s h =
      rw (le-ltb (room_of L s.memory) s.used h.within, facts_sound (rows_of L s) h.rows, h.fits)

  -- other rows put in their place
  module _ (s : State) (h : Holds L s) (rows : List Row) (room : length rows ≤ room_of L s.memory) where
    abbrev m : List ℕ
    m = s.memory

    abbrev pub next : State
    next = record { used = length rows; memory = table_after L (rows_of L s) rows m }

    -- the bytes put: within n rows, if both tables are
    abbrev text : List ℕ
    text = table_bytes L rows ++ replicate (w * (length (rows_of L s) - length rows)) 0

    text-within : (r n : ℕ) → s.used ≤ r → length rows ≤ r → w * r ≤ n → length text ≤ n
    text-within r n e f g =
        let k = length (rows_of L s) - length rows in
        let size : length text ≡ w * length rows + w * k = rw (length-append, length-table, length-replicate) in
        rw size (room_for w r n (length rows) k (omega (arith, length-rows w s.used m)) g)

    pub next_size : length next.memory ≡ length m
    next_size =
        let less : length text ≤ length m =
        text-within (room_of L m) (length m) h.within room (omega (arith, div-add-mod' (length m) w)) in
        rw (length-append, length-drop) (omega arith)

    -- rows that neither table uses
    pub next_unused : (n : ℕ) → s.used ≤ n → length rows ≤ n → drop (w * n) next.memory ≡ drop (w * n) m
    next_unused n e f = drop-front text m (w * n) (text-within n (w * n) e f (omega arith))

    -- where zeros stand behind the used rows, they do so again
    pub next-zeros : Zeros (drop (w * s.used) m) → Zeros (drop (w * length rows) next.memory)
    next-zeros z =
        let k = s.used - length rows in
        let more : w * (length rows + k) ≡ w * s.used + w * (length rows + k - s.used) =
        let sum : length rows + k ≡ s.used + (length rows + k - s.used) = omega arith in
        omega (arith, ap (λ (n : ℕ). w * n) sum) in
        rw (table-behind L s.used m rows, more, ← drop-drop (w * (length rows + k - s.used)) (w * s.used) m)
        (zeros-more (w * k) _ (zeros-drop (w * (length rows + k - s.used)) (drop (w * s.used) m) z))

    pub next-rows : AllSmall rows → rows_of L next ≡ rows
    next-rows small = rw append_assoc (rows_back L rows _ small)

    pub holds-next : Sound rows → AllSmall rows → Holds L next
    holds-next fine small = record {
      table = rw next_size h.table;
      within = rw next_size room;
      rows = rw (next-rows small) fine;
      small = rw (next-rows small) small;
      fits = rw append_assoc (fits_back L rows _ small);
    }
