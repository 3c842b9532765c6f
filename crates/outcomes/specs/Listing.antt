-- The ratio lister: the answer to a line, and the output for a whole input.
use Rattle.std.specs.Prelude.{cond, List, [], ◌∷◌, ◌++◌, ℕ, eqb}
use Rattle.bits.specs.Strings.{Bits}
use Rattle.bits.specs.Texts.{text_of}
use Rattle.families.proofs.Published.{words1983}
use Rattle.fractions.specs.Fractions.{Ratio, lowest_terms, form_of}
use Rattle.keys.specs.Keys.{key_of, count_of}
use Rattle.lines.specs.Lines.{printed, answered}
use Rattle.numerals.specs.Numerals.{decimal_of}
use Rattle.outcomes.specs.Outcomes.{Refusal, first_of}
use Rattle.outcomes.specs.Refusals.{zero_denominator}
use Rattle.outcomes.specs.Typing.{malformed, large_numeral, numerator_of, denominator_of}

-- a line is refused by 10, then 7, then 1
abbrev pub line_refusals : List ℕ → List Refusal
line_refusals l = malformed l ∷ large_numeral l ∷ zero_denominator (denominator_of l) ∷ []

-- a number, and a mark behind it
abbrev pub marked : ℕ → ℕ → List ℕ
marked n c = decimal_of n ++ (c ∷ [])

-- a ratio, a space, its key, a space, a count, a newline
unfoldable pub entry_of : Ratio → Bits → ℕ → List ℕ
entry_of r k n = marked r.num 47 ++ marked r.den 32 ++ text_of k ++ (32 ∷ []) ++ marked n 10

-- of an accepted ratio: in lowest terms, with its key and the count of quotients written
unfoldable pub accepted_line : ℕ → ℕ → List ℕ
accepted_line p q = entry_of (lowest_terms p q) (key_of words1983 p q) (count_of (form_of p q))

-- refused, the number, a newline
unfoldable pub refused_line : ℕ → List ℕ
refused_line n = printed "refused " ++ marked n 10

-- by the number of the refusal, 0 for none
abbrev pub line_for : ℕ → ℕ → ℕ → List ℕ
line_for number p q = cond (eqb number 0) (accepted_line p q) (refused_line number)

unfoldable pub line_answer : List ℕ → List ℕ
line_answer l = line_for (first_of (line_refusals l)) (numerator_of l) (denominator_of l)

unfoldable pub listing : List ℕ → List ℕ
listing input = answered line_answer input
