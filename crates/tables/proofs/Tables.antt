-- A table without fault is the bytes of its rows; so reading rows and writing them again restores every byte.
use Rattle.std.specs.Prelude.{◌≡◌, true, eqb, take}
use Rattle.std.proofs.Math.Path.{refl, sym, ap}
use Rattle.std.proofs.Common.{◌∙◌, eqb-true, eq-eqb, length-append, take-add, drop-drop}
use Rattle.std.proofs.lemmas.Bool.{false≢true}
use mathlib.Core.List.{List, [], ◌∷◌, ◌++◌, append_assoc}
use Prim.Native.Nat.{ℕ, zero, suc, ◌+◌, ◌*◌, ◌-◌, ◌≤◌, ◌<◌}
use native.Mathlib.Omega.{arith}
use Rattle.std.proofs.Math.ListN.{length, drop, length-drop}
use Rattle.std.proofs.Math.Seq.{take_at, drop_at}
use Rattle.bits.specs.Texts.{Bytes}
use Rattle.blocks.specs.Bytewise.{low_bytes}
use Rattle.blocks.proofs.Bytewise.{length_low}
use Rattle.tables.specs.declared.Row.{Row}
use Rattle.tables.specs.Rows.{Layout, row_size, number_bytes, row_of, rows_in, row_bytes, table_bytes}
use Rattle.tables.specs.Layouts.{plain}
use Rattle.tables.specs.Sound.{same_bytes, fitting}
use Rattle.tables.proofs.Order.{and_parts}
use Rattle.tables.proofs.Numbers.{numbers_there, length-numbers, bytes_dropped, low_number_lem, Small, row-small}

same_bytes_lem : (l k : List ℕ) → same_bytes l k ≡ true → l ≡ k
same_bytes_lem [] [] e = refl
same_bytes_lem [] (b ∷ k) e = absurd (false≢true e)
same_bytes_lem (a ∷ l) [] e = absurd (false≢true e)
same_bytes_lem (a ∷ l) (b ∷ k) e =
    let (f, g) = and_parts (eqb a b) (same_bytes l k) e in
    λ i. eqb-true a b f i ∷ same_bytes_lem l k g i

pub length-rows : (w n : ℕ) (m : List ℕ) → length (rows_in w n m) ≡ n
unfolding rows_in
length-rows w zero m = refl
length-rows w (suc n) m = ap suc (length-rows w n (drop w m))

bytes-same : (l : List ℕ) → same_bytes l l ≡ true
bytes-same [] = refl
bytes-same (a ∷ l) = rw (eq-eqb a a refl) (bytes-same l)

-- every row's numbers have 32 bits
abbrev pub AllSmall : List Row → Type 0
AllSmall [] = Unit {0}
AllSmall (r ∷ l) = Small r × AllSmall l

pub rows-small : (w n : ℕ) (m : List ℕ) → Bytes m → AllSmall (rows_in w n m)
unfolding rows_in
rows-small w zero m h = tt
rows-small w (suc n) m h = (row-small m h, rows-small w n (drop w m) (bytes_dropped w m h))

-- nothing stands behind the numbers
pub plain-fits : (n : ℕ) (m : List ℕ) → fitting plain n m ≡ true
unfolding fitting
plain-fits zero m = refl
plain-fits (suc n) m = plain-fits n (drop 12 m)

-- the rows from row i on
abbrev pub rows_from : ℕ → List ℕ → ℕ → ℕ → List Row
rows_from w m used i = rows_in w (used - i) (drop (w * i) m)

pub rows-drop : (w n i : ℕ) (m : List ℕ) → drop i (rows_in w n m) ≡ rows_from w m n i
unfolding rows_in
rows-drop w n zero m =
    let none : w * 0 ≡ 0 = omega arith in let all : n - 0 ≡ n = omega arith in rw (none, all)
rows-drop w zero (suc i) m = let none : 0 - suc i ≡ 0 = omega arith in rw none
rows-drop w (suc n) (suc i) m =
    let less : suc n - suc i ≡ n - i = omega arith in
    let place : w + w * i ≡ w * suc i = omega arith in
    rows-drop w n i (drop w m) ∙ rw (less, drop-drop, place)

-- the first of them and the others; none behind the last
pub rows-next : (w : ℕ) (m : List ℕ) (n i : ℕ) → i < n
    → rows_from w m n i ≡ row_of (drop (w * i) m) ∷ rows_from w m n (suc i)
unfolding rows_in
rows-next w m n i h =
    let less : n - i ≡ suc (n - suc i) = omega arith in
    let place : w * i + w ≡ w * suc i = omega arith in
    rw (less, drop-drop, place)

pub rows-end : (w : ℕ) (m : List ℕ) (n i : ℕ) → n ≤ i → rows_from w m n i ≡ []
unfolding rows_in
rows-end w m n i h = let none : n - i ≡ 0 = omega arith in rw none

module _ (L : Layout) where
  abbrev w : ℕ
  w = row_size L

  row_there : (m : List ℕ) → w ≤ length m → Bytes m
      → same_bytes (take L.size (drop 12 m)) (L.behind (row_of m).numerator (row_of m).denominator) ≡ true
      → row_bytes L (row_of m) ≡ take w m
  unfolding row_bytes
  row_there m h small e =
      let behind = same_bytes_lem (take L.size (drop 12 m)) (L.behind (row_of m).numerator (row_of m).denominator) e in
      rw (numbers_there m (omega arith) small, ← behind) (sym (take-add 12 L.size m))

  pub table_there : (n : ℕ) (m : List ℕ) → w * n ≤ length m → Bytes m → fitting L n m ≡ true
      → table_bytes L (rows_in w n m) ≡ take (w * n) m
  unfolding fitting rows_in table_bytes
  table_there zero m h small e = rw none
    where
      none : w * 0 ≡ 0
      none = omega arith
  table_there (suc n) m h small e =
      let r = row_of m in
      let (f, g) =
      and_parts (same_bytes (take L.size (drop 12 m)) (L.behind r.numerator r.denominator))
      (fitting L n (drop w m)) e in
      let more : w * suc n ≡ w + w * n = omega arith in
      rw (
        row_there m (omega arith) small f,
        table_there n (drop w m) (rw length-drop (omega arith)) (bytes_dropped w m small) g,
        more,
      )
      (sym (take-add w (w * n) m))

  pub length-row : (r : Row) → length (row_bytes L r) ≡ w
  unfolding row_bytes
  length-row r = rw (length-append, length-numbers, L.fits r.numerator r.denominator)

  -- a row's numbers, read back
  row_back : (r : Row) (t : List ℕ) → Small r → row_of (row_bytes L r ++ t) ≡ r
  unfolding row_bytes row_of
  row_back r t s =
      let a = low_bytes 4 r.numerator in
      let b = low_bytes 4 r.denominator in
      let c = low_bytes 4 r.quantity in
      let d = L.behind r.numerator r.denominator ++ t in
      let one : (a ++ (b ++ c)) ++ L.behind r.numerator r.denominator ++ t ≡ a ++ (b ++ (c ++ d)) =
      simp append_assoc in
      let x : length a ≡ 4 = length_low 4 r.numerator in
      let y : length b ≡ 4 = length_low 4 r.denominator in
      let z : length c ≡ 4 = length_low 4 r.quantity in
      let second : drop 4 (a ++ (b ++ (c ++ d))) ≡ b ++ (c ++ d) = drop_at a (b ++ (c ++ d)) 4 x in
      let third : drop 8 (a ++ (b ++ (c ++ d))) ≡ c ++ d =
      sym (drop-drop 4 4 (a ++ (b ++ (c ++ d)))) ∙ ap (drop 4) second ∙ drop_at b (c ++ d) 4 y in
      rw (
        one,
        second,
        third,
        take_at a (b ++ (c ++ d)) 4 x,
        take_at b (c ++ d) 4 y,
        take_at c d 4 z,
        low_number_lem 4 r.numerator (omega (arith, s.numerator)),
        low_number_lem 4 r.denominator (omega (arith, s.denominator)),
        low_number_lem 4 r.quantity (omega (arith, s.quantity)),
      )

  pub rows_back : (l : List Row) (t : List ℕ) → AllSmall l → rows_in w (length l) (table_bytes L l ++ t) ≡ l
  unfolding rows_in table_bytes
  rows_back [] t s = refl
  rows_back (r ∷ l) t (s, q) =
      rw (
        append_assoc,
        row_back r (table_bytes L l ++ t) s,
        drop_at (row_bytes L r) (table_bytes L l ++ t) w
            (length-row r),
      )
      (ap {B = List Row} (λ k. r ∷ k) (rows_back l t q))

  pub length-table : (l : List Row) → length (table_bytes L l) ≡ w * length l
  unfolding table_bytes
  length-table [] = omega arith
  length-table (r ∷ l) = rw (length-append, length-row) (omega (arith, length-table l))

  behind_back : (r : Row) (t : List ℕ)
      → take L.size (drop 12 (row_bytes L r ++ t)) ≡ L.behind r.numerator r.denominator
  unfolding row_bytes
  behind_back r t =
      let b = L.behind r.numerator r.denominator in
      rw (append_assoc (number_bytes r) b t, drop_at (number_bytes r) (b ++ t) 12 (length-numbers r))
      (take_at b t L.size (L.fits r.numerator r.denominator))

  -- the bytes of rows fit
  pub fits_back : (l : List Row) (t : List ℕ) → AllSmall l → fitting L (length l) (table_bytes L l ++ t) ≡ true
  unfolding fitting table_bytes
  fits_back [] t s = refl
  fits_back (r ∷ l) t (s, q) =
      rw (
        append_assoc,
        row_back r (table_bytes L l ++ t) s,
        behind_back r (table_bytes L l ++ t),
        bytes-same (L.behind r.numerator r.denominator),
        drop_at (row_bytes L r) (table_bytes L l ++ t) w (length-row r),
      )
      (fits_back l t q)

  pub table-append : (k l : List Row) → table_bytes L (k ++ l) ≡ table_bytes L k ++ table_bytes L l
  unfolding table_bytes
  table-append [] l = refl
  table-append (r ∷ k) l =
      ap (λ (t : List ℕ). row_bytes L r ++ t) (table-append k l) ∙ sym
      (append_assoc (row_bytes L r) (table_bytes L k) (table_bytes L l))
