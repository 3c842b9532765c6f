-- The scope's example of the lister, and every kind of line, run.
use Rattle.std.specs.Prelude.{◌≡◌, refl, ℕ, replicate}
use Rattle.std.proofs.Common.{ap, ◌∙◌}
use mathlib.Core.List.{List, [], ◌∷◌, ◌++◌, map, flatten}
use Rattle.bits.specs.Strings.{bits_of}
use Rattle.families.specs.Words.{digits_from as binary, digits_after_one, word_of}
use Rattle.fractions.specs.Fractions.{◌over◌, divided_from, usual, gcd, lowest_terms, form_of}
use Rattle.keys.specs.Keys.{key_of}
use Rattle.lines.specs.Lines.{printed, lines_of, answered}
use Rattle.numerals.specs.Numerals.{digits_from, decimal_of}
use Rattle.outcomes.specs.Outcomes.{gives, refuses, first_of}
use Rattle.outcomes.specs.Typing.{before_slash, after_slash, typed_ratio}
use Rattle.outcomes.specs.Listing.{line_refusals, entry_of, accepted_line, refused_line, line_answer, listing}

input : List ℕ
input = printed "19/44\n0314/100\n0/5\n7/0\n7\n"

lines : List (List ℕ)
lines = accepted_line 19 44 ∷ accepted_line 314 100 ∷ accepted_line 0 5 ∷ refused_line 1 ∷ refused_line 10 ∷ []

judged : listing input ≡ flatten lines
unfolding input lines printed listing answered lines_of line_answer before_slash after_slash
judged = refl

rows : List (List ℕ)
rows =
    entry_of (19 over 44) (bits_of "00111010011") 4 ∷ entry_of (157 over 50) (bits_of "11010010011011") 3
    ∷ entry_of (0 over 1) (bits_of "0") 0 ∷ refused_line 1 ∷ refused_line 10 ∷ []

accepted : lines ≡ rows
unfolding lines rows accepted_line bits_of lowest_terms gcd key_of form_of usual divided_from word_of digits_after_one binary
accepted = refl

output : List ℕ
output = printed "19/44 00111010011 4\n157/50 11010010011011 3\n0/1 0 0\nrefused 1\nrefused 10\n"

said : flatten rows ≡ output
unfolding rows output flatten entry_of refused_line printed bits_of decimal_of digits_from
said = refl

printed_example : listing input ≡ output
printed_example = judged ∙ ap flatten accepted ∙ said

-- the numbers of lines on both sides of each limit, 0 for an accepted one: ten digits, eleven, the largest numeral and
-- one more, in either place; the shape comes before the size, and the size before the zero
limit_examples : map (λ l. first_of (line_refusals (printed l)))
    ("0000000001/0000000002" ∷ "00000000001/2" ∷ "1/00000000002" ∷ "4294967295/4294967295" ∷ "4294967296/1"
    ∷ "1/4294967296" ∷ "9999999999/x" ∷ "4294967296/0" ∷ "0/0" ∷ [])
    ≡ 0 ∷ 10 ∷ 10 ∷ 0 ∷ 7 ∷ 7 ∷ 10 ∷ 7 ∷ 1 ∷ []
unfolding printed before_slash after_slash
limit_examples = refl

-- a typed ratio, read: 10 comes before 7, and what is given isn't reduced
typed_examples : map (λ l. typed_ratio (printed l)) ("4294967296/x" ∷ "4294967296/0" ∷ "0314/100" ∷ "7/0" ∷ [])
    ≡ refuses 10 2 [] ∷ refuses 7 2 [] ∷ gives (314 ∷ 100 ∷ []) [] ∷ gives (7 ∷ 0 ∷ []) [] ∷ []
unfolding typed_ratio printed before_slash after_slash
typed_examples = refl

-- an empty line, no slash, two slashes, one numeral missing, a carriage return, a sign, a space, a tab
shape_examples : map (λ l. first_of (line_refusals (printed l)))
    ("" ∷ "12" ∷ "1/2/3" ∷ "/2" ∷ "1/" ∷ "/" ∷ "1/2\r" ∷ "-1/2" ∷ "1 /2" ∷ "1/2\t" ∷ [])
    ≡ replicate 10 10
unfolding printed before_slash after_slash
shape_examples = refl

-- a zero byte and bytes from 128 on are anything else; so are the bytes beside the digits and the slash
byte_examples : map (λ c. first_of (line_refusals (printed "1/2" ++ (c ∷ []))))
    (0 ∷ 46 ∷ 47 ∷ 48 ∷ 57 ∷ 58 ∷ 128 ∷ 255 ∷ [])
    ≡ 10 ∷ 10 ∷ 10 ∷ 0 ∷ 0 ∷ 10 ∷ 10 ∷ 10 ∷ []
unfolding printed before_slash after_slash
byte_examples = refl

-- no line in empty input; a newline ends a line, and nothing after the last one is no line; a last line may lack it
line_examples : map (λ t. lines_of (printed t)) ("" ∷ "\n" ∷ "1/2" ∷ "1/2\n" ∷ "1/2\n\n3" ∷ [])
    ≡ [] ∷ ([] ∷ []) ∷ (printed "1/2" ∷ []) ∷ (printed "1/2" ∷ []) ∷ (printed "1/2" ∷ [] ∷ printed "3" ∷ []) ∷ []
unfolding printed lines_of
line_examples = refl
