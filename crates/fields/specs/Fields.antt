-- What a field is after one byte more, and the ratio that was typed.
use Rattle.std.specs.Prelude.{Bool, true, false, cond, ◌||◌, ℕ, ◌+◌, ◌-◌, ◌*◌, eqb, ltb, Option, Some, None, Result}
use Rattle.std.specs.Prelude.{Ok, Err}
use Rattle.fractions.specs.declared.Fraction.{Fraction}
use Rattle.keys.specs.Size.{limit}
use Rattle.numerals.specs.Numerals.{is_digit}
use Rattle.refusals.specs.declared.Refusal.{Refusal}
use Rattle.refusals.specs.declared.Refusal.TheVariants.{Malformed, OutOfRange}
use Rattle.fields.specs.declared.Numeral.{Numeral}
use Rattle.fields.specs.declared.Field.{Field}
use Rattle.fields.specs.declared.Field.TheVariants.{Empty, First, Second, Bad}

-- a numeral's value, one digit further; over the limit it stays
abbrev pub grown : ℕ → ℕ → ℕ
grown v d = cond (ltb limit v) v (v * 10 + d)

-- a numeral, one digit further
abbrev pub longer : Numeral → ℕ → Numeral
longer n d = record { digits = n.digits + 1; value = grown n.value d }

-- an eleventh digit makes it bad
abbrev pub fed_digit : Field → ℕ → Field
fed_digit Empty d = First (record { digits = 1; value = d })
fed_digit (First n) d = cond (ltb n.digits 10) (First (longer n d)) Bad
fed_digit (Second n p) d = cond (ltb n.digits 10) (Second (longer n d) p) Bad
fed_digit Bad d = Bad

-- a slash in front, and a second one, make it bad
abbrev pub fed_slash : Field → Field
fed_slash Empty = Bad
fed_slash (First n) = Second (record { digits = 0; value = 0 }) n.value
fed_slash (Second n p) = Bad
fed_slash Bad = Bad

-- a digit, a slash, anything else
abbrev pub fed_by : Field → ℕ → Field
fed_by s c = cond (is_digit c) (fed_digit s (c - 48)) (cond (eqb c 47) (fed_slash s) Bad)

-- a newline ends the line
abbrev pub feed_of : Field → ℕ → Option Field
feed_of s c = cond (eqb c 10) None (Some (fed_by s c))

abbrev pub is_blank : Field → Bool
is_blank Empty = true
is_blank (First n) = false
is_blank (Second n p) = false
is_blank Bad = false

-- of digits, a slash and n digits
abbrev pub typed_with : ℕ → ℕ → ℕ → Result Fraction Refusal
typed_with p n v =
    cond (eqb n 0) (Err Malformed)
    (cond (ltb limit p || ltb limit v) (Err OutOfRange) (Ok (record { numerator = p; denominator = v })))

abbrev pub typed_of : Field → Result Fraction Refusal
typed_of Empty = Err Malformed
typed_of (First n) = Err Malformed
typed_of (Second n p) = typed_with p n.digits n.value
typed_of Bad = Err Malformed
