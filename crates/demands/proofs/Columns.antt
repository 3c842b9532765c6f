-- Columns, compared as unsigned bytes, first byte first, stand as the ratios do: by any sorter of bytes.
use Rattle.std.specs.Prelude.{◌≡◌, refl, [], ◌∷◌, ℕ, zero, suc, ◌*◌, ◌≤◌, length, drop}
use Rattle.std.proofs.Common.{sym, ◌∙◌, arith, length-drop}
use Rattle.bits.specs.Strings.{Bits}
use Rattle.bits.specs.Binary.{bytes_of}
use Rattle.compare.specs.Bytes.{byte_standing}
use Rattle.families.specs.Families.{Family}
use Rattle.keys.specs.Keys.{key_of, column_of}
use Rattle.keys.specs.Size.{limit}
use Rattle.keys.proofs.Size.{key_size}
use Rattle.outcomes.specs.Comparing.{number_standing, standing}
use Rattle.outcomes.proofs.Standings.{key-standing}
use Rattle.outcomes.proofs.FrontOrder.{standing-front}

bytes-standing : (n : ℕ) (s t : Bits) → length s ≤ 8 * n → length t ≤ 8 * n
    → byte_standing (bytes_of n s) (bytes_of n t) ≡ standing s t
unfolding byte_standing standing
bytes-standing zero [] [] h l = refl
bytes-standing zero (b ∷ s) t h l = absurd (omega arith)
bytes-standing zero [] (b ∷ t) h l = absurd (omega arith)
bytes-standing (suc n) s t h l =
    rw (bytes-standing n (drop 8 s) (drop 8 t) (rw length-drop (omega arith)) (rw length-drop (omega arith)))
    (sym (standing-front 8 s t))

-- columns of two ratios stand as the cross products do
pub column-order : (F : Family) (p q r s : ℕ) → 1 ≤ q → 1 ≤ s → p ≤ limit → q ≤ limit → r ≤ limit → s ≤ limit
    → byte_standing (column_of (key_of F p q)) (column_of (key_of F r s)) ≡ number_standing (p * s) (r * q)
column-order F p q r s f g a b c d =
    bytes-standing 12 (key_of F p q) (key_of F r s) (key_size F p q f a b) (key_size F r s g c d)
    ∙ key-standing F p q r s f g
