-- A row read as three numbers of four bytes each: lent from their place on, or as arrays of four.
use Rattle.std.specs.Prelude.{◌≡◌, List, [], ◌∷◌, ℕ, ◌+◌, ◌*◌, ◌-◌, ◌≤◌, length, get_or, take, drop}
use Rattle.std.specs.Array.{IsWholeChunk}
use Rattle.std.specs.Int.{w32, from_le_bytes}
use Rattle.std.proofs.Common.{◌∙◌, ap, arith, drop-drop}
use Rattle.bits.proofs.Memory.{lent_part}
use Rattle.tables.specs.declared.Row.{Row}
use Rattle.tables.specs.Rows.{low_number, row_of}

pub four-read : (m : List ℕ) → 4 ≤ length m
    → get_or m 0 0 + get_or m 1 0 * 256 + get_or m 2 0 * 65536 + get_or m 3 0 * 16777216 ≡ low_number (take 4 m)
unfolding low_number
four-read (a ∷ b ∷ c ∷ d ∷ m) h = omega arith
four-read (a ∷ b ∷ c ∷ []) h = absurd (omega arith)
four-read (a ∷ b ∷ []) h = absurd (omega arith)
four-read (a ∷ []) h = absurd (omega arith)
four-read [] h = absurd (omega arith)

-- the part that is lent from a place on
abbrev lent : ℕ → List ℕ → List ℕ
lent at m = take (length m - at) (drop at m)

pub row-read : (m : List ℕ) (at : ℕ) {p q n : ℕ} → p ≡ low_number (take 4 (lent at m))
    → q ≡ low_number (take 4 (lent (at + 4) m)) → n ≡ low_number (take 4 (lent (at + 8) m))
    → ◌≡◌ {A = Row} record { numerator = p; denominator = q; quantity = n } (row_of (drop at m))
unfolding row_of
row-read m at e f g = rw (e, f, g, lent_part, lent_part, lent_part, drop-drop, drop-drop)

pub array-read : (b : List ℕ) → length b ≡ 4 → from_le_bytes w32 b ≡ low_number b
unfolding low_number
array-read (a ∷ b ∷ c ∷ d ∷ []) h = omega arith
array-read (a ∷ b ∷ c ∷ d ∷ x ∷ m) h = absurd (omega arith)
array-read (a ∷ b ∷ c ∷ []) h = absurd (omega arith)
array-read (a ∷ b ∷ []) h = absurd (omega arith)
array-read (a ∷ []) h = absurd (omega arith)
array-read [] h = absurd (omega arith)

-- the number whose bytes are lent as an array
number-read : {l b : List ℕ} {n : ℕ} → n ≡ from_le_bytes w32 b → IsWholeChunk l b 4 → n ≡ low_number l
number-read {l} {b} e h = e ∙ array-read b (ap length h.same ∙ h.long) ∙ ap low_number h.same

abbrev part : List ℕ → ℕ → ℕ → List ℕ
part m from to = take (to - from) (drop from m)

pub row-made : (m : List ℕ) (at : ℕ) {p q n : ℕ} {x y z : List ℕ}
    → p ≡ from_le_bytes w32 x → IsWholeChunk (part m at (at + 4)) x 4
    → q ≡ from_le_bytes w32 y → IsWholeChunk (part m (at + 4) (at + 8)) y 4
    → n ≡ from_le_bytes w32 z → IsWholeChunk (part m (at + 8) (at + 12)) z 4
    → ◌≡◌ {A = Row} record { numerator = p; denominator = q; quantity = n } (row_of (drop at m))
unfolding row_of
row-made m at e x f y g z =
    let first : at + 4 - at ≡ 4 = omega arith in
    let second : at + 8 - (at + 4) ≡ 4 = omega arith in
    let third : at + 12 - (at + 8) ≡ 4 = omega arith in
    rw (number-read e x, number-read f y, number-read g z, first, second, third, drop-drop, drop-drop)
