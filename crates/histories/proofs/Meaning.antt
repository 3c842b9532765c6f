-- What refusals 2 and 16 are for, as facts; and that the rows of a table stand by their keys.
use Rattle.std.specs.Prelude.{◌≡◌, refl, Bool, true, false, not, ◌&&◌, ◌||◌, ◌↔◌, List, ◌∷◌, ◌++◌, ℕ, ◌*◌, ◌/◌, ◌%◌, ◌≤◌, eqb, ltb, length}
use Rattle.std.proofs.Common.{true≢false, div-add-mod', arith, le-ltb, ltb-false, eqb-true, eq-eqb, ne_eqb}
use Rattle.std.proofs.lemmas.Bool.{eqb-false}
use Rattle.bits.specs.Strings.{◌≺◌}
use Rattle.families.specs.Families.{Family}
use Rattle.keys.specs.Keys.{key_of}
use Rattle.keys.proofs.Order.{key-order}
use Rattle.tables.specs.declared.Row.{Row}
use Rattle.tables.specs.Rows.{Layout, row_size, room_of, rows_in}
use Rattle.tables.specs.Sound.{sound, fitting}
use Rattle.tables.specs.Order.{Sound}
use Rattle.tables.proofs.Order.{sound_facts, facts_sound, row-positive, sound_part, above_part}
use Rattle.outcomes.specs.Stocking.{wrong_size, wrong_table, unsound_table}

pub neither : (a b : Bool) → (a || b) ≡ false → (a ≡ false) × (b ≡ false)
neither false b e = (refl, e)
neither true b e = absurd (true≢false e)

both : (a b : Bool) → not (a && b) ≡ false → (a ≡ true) × (b ≡ true)
both true true e = (refl, refl)
both true false e = absurd (true≢false e)
both false b e = absurd (true≢false e)

not-false : (a : Bool) → not a ≡ false → a ≡ true
not-false true e = refl
not-false false e = absurd (true≢false e)

-- 2 is for memory that isn't 1 to 2,048 whole rows and nothing over
pub right_size : (L : Layout) (m : List ℕ) → ((wrong_table L m).1 ≡ false)
    ↔ ((length m ≡ row_size L * room_of L m) × ((1 ≤ room_of L m) × (room_of L m ≤ 2048)))
right_size L m = (there, back)
  where
    w : ℕ
    w = row_size L

    n : ℕ
    n = length m

    there : wrong_size w n ≡ false → (n ≡ w * (n / w)) × ((1 ≤ n / w) × (n / w ≤ 2048))
    there e =
        let (over, rest) = neither (not (eqb (n % w) 0)) (eqb (n / w) 0 || ltb 2048 (n / w)) e in
        let (none, most) = neither (eqb (n / w) 0) (ltb 2048 (n / w)) rest in
        let whole = eqb-true (n % w) 0 (not-false (eqb (n % w) 0) over) in (
          omega (arith, div-add-mod' n w),
          (omega (arith, eqb-false (n / w) 0 none), ltb-false 2048 (n / w) most),
        )

    back : (n ≡ w * (n / w)) × ((1 ≤ n / w) × (n / w ≤ 2048)) → wrong_size w n ≡ false
    back (whole, (some, most)) =
        let none : n % w ≡ 0 = omega (arith, div-add-mod' n w) in
        rw (eq-eqb (n % w) 0 none, ne_eqb (n / w) 0 (λ z. omega arith), le-ltb 2048 (n / w) most)

-- 16 is for more rows than there is room for, for rows that aren't sound, and for what doesn't fit the layout
pub right_rows : (L : Layout) (used : ℕ) (m : List ℕ) → let rows = rows_in (row_size L) used m in
    ((unsound_table L used m).1 ≡ false) ↔ ((used ≤ room_of L m) × (Sound rows × (fitting L used m ≡ true)))
right_rows L used m = (there, back)
  where
    rows : List Row
    rows = rows_in (row_size L) used m

    there : (unsound_table L used m).1 ≡ false → (used ≤ room_of L m) × (Sound rows × (fitting L used m ≡ true))
    there e =
        let (room, rest) = neither (ltb (room_of L m) used) (not (sound rows && fitting L used m)) e in
        let (fine, fits) = both (sound rows) (fitting L used m) rest in
        (ltb-false (room_of L m) used room, (sound_facts rows fine, fits))

    back : (used ≤ room_of L m) × (Sound rows × (fitting L used m ≡ true)) → (unsound_table L used m).1 ≡ false
    back (room, (fine, fits)) = rw (le-ltb (room_of L m) used room, facts_sound rows fine, fits)

-- over any family the key of a row stands before that of each row behind it
pub keys_rise : (F : Family) (a b c : List Row) (r s : Row) → Sound (a ++ (r ∷ (b ++ (s ∷ c))))
    → key_of F r.numerator r.denominator ≺ key_of F s.numerator s.denominator
keys_rise F a b c r s f =
    let (good, (high, fine)) = sound_part a (r ∷ (b ++ (s ∷ c))) f in
    let (other, more) = sound_part b (s ∷ c) fine in
    (key-order F r.numerator r.denominator s.numerator s.denominator (row-positive r good)
    (row-positive s other)).1
    (above_part r.numerator r.denominator b c s high)
