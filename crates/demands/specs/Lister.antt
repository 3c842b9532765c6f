-- What is promised of the ratio lister, in its own words. Only definitions are imported.
use Rattle.std.specs.Prelude.{◌≡◌, true, false, ℕ, ◌≤◌, get_or}
use mathlib.Core.List.{List, [], ◌∷◌, ◌++◌, foldl}
use Rattle.bits.specs.Texts.{text_of}
use Rattle.families.proofs.Published.{words1983}
use Rattle.fractions.specs.Fractions.{◌over◌, lowest_terms, form_of}
use Rattle.keys.specs.Keys.{key_of, count_of}
use Rattle.numerals.specs.Numerals.{all_digits, value_of, decimal_of}
use Rattle.lines.specs.Lines.{printed, Unbroken}
use Rattle.lines.specs.Machines.{stretched, lacking, run}
use Rattle.outcomes.specs.Outcomes.{Refusal, leaves, first_of}
use Rattle.outcomes.specs.Refusals.{zero_denominator}
use Rattle.outcomes.specs.Typing.{before_slash, after_slash, numerator_of, denominator_of, IsRatio}
use Rattle.outcomes.specs.Typing.{malformed, large_numeral, typed_ratio}
use Rattle.outcomes.specs.Listing.{line_answer, listing}
use Rattle.fields.specs.Fields.{fed_by, typed_of}
use Rattle.refusals.specs.Answers.{answered, terms_as}
use Rattle.fields.specs.declared.Field.{Field}
use Rattle.fields.specs.declared.Field.TheVariants.{Empty}
use Rattle.list.specs.Ratios.{ratios}

-- The numeral of n: digits that stand for n, with no zero in front, and of 0 the single 0.
pub record Numeral (n : ℕ) (t : List ℕ) : Type 0 where
  pub digits : all_digits t ≡ true
  pub value : value_of t ≡ n
  pub front : 1 ≤ n → 49 ≤ get_or t 0 0
  pub zero : n ≡ 0 → t ≡ 48 ∷ []

-- The order of refusals of a line is 10, then 7 for a numeral above 4294967295, then 1.
abbrev order : List ℕ → List Refusal
order l = malformed l ∷ large_numeral l ∷ zero_denominator (denominator_of l) ∷ []

-- One line, in which p/q is typed.
pub record Answered (l : List ℕ) (p q : ℕ) : Type 0 where
  pub refused : (n : ℕ) → first_of (order l) ≡ n → 1 ≤ n
      → line_answer l ≡ printed "refused " ++ (decimal_of n ++ printed "\n")
  -- An accepted line gives the ratio in lowest terms, the published key and the count of quotients written.
  pub accepted : (a b : ℕ) → first_of (order l) ≡ 0 → lowest_terms p q ≡ a over b
      → let k = text_of (key_of words1983 p q) in let n = count_of (form_of p q) in
      line_answer l ≡ (decimal_of a ++ printed "/") ++ (decimal_of b ++ printed " ") ++ k ++ printed " "
      ++ (decimal_of n ++ printed "\n")

pub record Lister : Type 0 where
  pub numeral : (n : ℕ) → Numeral n (decimal_of n)
  -- Number 10 is for exactly what isn't a numeral of 1 to 10 digits, a slash and such a numeral; these two are read.
  pub shape : (l s t : List ℕ) → IsRatio l s t
      → ((malformed l).1 ≡ false) × (numerator_of l ≡ value_of s) × (denominator_of l ≡ value_of t)
  pub no_other : (l : List ℕ) → (malformed l).1 ≡ false → IsRatio l (before_slash l) (after_slash l)
  pub line : (l : List ℕ) → Answered l (numerator_of l) (denominator_of l)
  -- Fed byte by byte, a line is settled as its bytes say.
  pub settled : (l : List ℕ) → leaves (answered 2 terms_as (typed_of (foldl fed_by Empty l))) [] ≡ typed_ratio l
  -- A whole input: what stands before a newline is a line; what stands behind the last one is a line if there is
  -- anything.
  pub empty : listing [] ≡ []
  pub next : (l t : List ℕ) → Unbroken l → listing (l ++ (10 ∷ t)) ≡ line_answer l ++ listing t
  pub last : (c : ℕ) (l : List ℕ) → Unbroken (c ∷ l) → listing (c ∷ l) ≡ line_answer (c ∷ l)
  -- However the input is cut into stretches, and whatever room each has, this is written; at the end of the input by
  -- feeding the newline that the last line lacks.
  pub cut : (input : List ℕ) (turns : List (ℕ × ℕ)) → run ratios Empty input turns ≡ listing input
  pub end : (s : Field) (room : ℕ) → 130 ≤ room
      → (stretched ratios room s (lacking ratios s)).text ≡ run ratios s [] []
