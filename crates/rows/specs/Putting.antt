-- A row put as three numbers of four bytes, each behind the one before it.
use Rattle.std.specs.Prelude.{◌≡◌, List, [], ◌∷◌, ◌++◌, ℕ, ◌+◌, ◌/◌, ◌%◌, ◌≤◌, length}
use Rattle.std.proofs.Common.{◌∙◌, ap, append_assoc, append-nil, length-append}
use Rattle.std.proofs.Math.Nat.{div-div-eq-div-mul}
use Rattle.bits.specs.Texts.{pasted}
use Rattle.bits.proofs.Pasting.{pasted-more}
use Rattle.blocks.specs.Bytewise.{low_bytes}
use Rattle.blocks.proofs.Bytewise.{length_low}
use Rattle.tables.specs.declared.Row.{Row}
use Rattle.tables.specs.Layouts.{stock_rows}
use Rattle.tables.specs.Rows.{row_bytes}

pub four_bytes_lem : (n : ℕ) → low_bytes 4 n ≡ n % 256 ∷ n / 256 % 256 ∷ n / 65536 % 256 ∷ n / 16777216 % 256 ∷ []
unfolding low_bytes
four_bytes_lem n = simp div-div-eq-div-mul

pub row-put : (m : List ℕ) (at : ℕ) (r : Row) → at ≤ length m
    → pasted (low_bytes 4 r.quantity) (at + 8)
    (pasted (low_bytes 4 r.denominator) (at + 4) (pasted (low_bytes 4 r.numerator) at m))
    ≡ pasted (row_bytes stock_rows r) at m
unfolding row_bytes
row-put m at r within =
    let a = low_bytes 4 r.numerator in
    let b = low_bytes 4 r.denominator in
    let d = low_bytes 4 r.quantity in
    let size : length (a ++ b) ≡ 8 = rw (length-append, length_low, length_low) in
    ap (pasted d (at + 8)) (pasted-more at m within a b 4 (length_low 4 r.numerator))
    ∙ pasted-more at m within (a ++ b) d 8 size
    ∙ rw (append-nil, append_assoc a b d)
