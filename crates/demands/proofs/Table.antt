-- The ratios that the scope marks to be proved, each with its key: one table, and one claim about every row of it.
use Rattle.std.specs.Prelude.{◌≡◌, refl}
use Rattle.std.proofs.Common.{sym, ◌∙◌, ap}
use mathlib.Core.List.{List, [], ◌∷◌, map, head-eq_of_cons-eq, tail-eq_of_cons-eq}
use mathlib.Core.List.{Memᴰ}
use Prim.Native.String.{String}
use Rattle.bits.specs.Strings.{Bits, bits_of}
use Rattle.families.specs.Words.{digits_from, digits_after_one, word_of, first_number}
use Rattle.families.proofs.Published.{words1983}
use Rattle.fractions.specs.Fractions.{Ratio, ◌over◌, divided_from, usual, form_of}
use Rattle.keys.specs.Keys.{key_of, read_from, read, value_of_key}

-- a ratio in lowest terms and its key, as printed
pub record Row : Type 0 where
  pub ratio : Ratio
  pub key : String

infix 24 ◌has◌
abbrev ◌has◌ : Ratio → String → Row
r has k = record { ratio = r; key = k }

unfoldable pub table : List Row
table =
    (0 over 1 has "0")
    ∷ (1 over 1 has "1")
    ∷ (1 over 2 has "01")
    ∷ (5 over 16 has "001011001")
    ∷ (19 over 44 has "00111010011")
    ∷ (26 over 161 has "0001011100100111")
    ∷ (57 over 31 has "1011100100111")
    ∷ (22 over 7 has "110100101")
    ∷ (157 over 50 has "11010010011011")
    ∷ (333 over 106 has "1101001001110111")
    ∷ (4294967295 over 1 has "1111111111111111111111111111111101111111111111111111111111111111")
    ∷ (1 over 4294967295 has "0000000000000000000000000000000010000000000000000000000000000001")
    ∷ []

-- the key of the ratio, and the value of the key
abbrev found : Row → Bits × Ratio
found r = (key_of words1983 r.ratio.num r.ratio.den, value_of_key words1983 (bits_of r.key))

abbrev printed : Row → Bits × Ratio
printed r = (bits_of r.key, r.ratio)

run : map found table ≡ map printed table
unfolding table bits_of key_of form_of usual divided_from word_of digits_after_one digits_from first_number
    read read_from
run = refl

-- what is found and what is printed at each row of a table
at-row : {A : Type 0} (f g : Row → A) (r : Row) (t : List Row) → map f t ≡ map g t → Memᴰ r t → f r ≡ g r
at-row f g r t e (Memᴰ.head q) = ap f q ∙ head-eq_of_cons-eq e ∙ sym (ap g q)
at-row f g r t e (Memᴰ.tail {xs = l} m) = at-row f g r l (tail-eq_of_cons-eq e) m

-- in every row the key is the ratio's key, and the ratio is the key's value
pub every_row : (r : Row) → Memᴰ r table
    → (key_of words1983 r.ratio.num r.ratio.den ≡ bits_of r.key)
    × (value_of_key words1983 (bits_of r.key) ≡ r.ratio)
every_row r m =
    let e = at-row found printed r table run m in
    (ap (λ (x : Bits × Ratio). x.0) e, ap (λ (x : Bits × Ratio). x.1) e)
