-- The refusal numbers, once, and when each is due.
use Rattle.std.specs.Prelude.{cond, ◌&&◌, ◌||◌, not, List, [], ◌∷◌, ℕ, suc, ◌-◌, eqb, ltb, length, get_or}
use Rattle.fractions.specs.Fractions.{Ratio}
use Rattle.keys.specs.Size.{limit}
use Rattle.outcomes.specs.Outcomes.{Refusal}

-- 1: denominator 0
abbrev pub zero_denominator : ℕ → Refusal
zero_denominator q = (1, eqb q 0)

-- 2: output buffer shorter than n bytes
abbrev pub short_buffer : ℕ → List ℕ → Refusal
short_buffer n m = (2, ltb (length m) n)

-- 3: text key empty
abbrev pub empty_key : List ℕ → Refusal
empty_key k = (3, eqb (length k) 0)

-- 4: text key over 96 characters
abbrev pub long_key : List ℕ → Refusal
long_key k = (4, ltb 96 (length k))

-- the index of the first character that is neither 0 nor 1; the length where there is none
unfoldable pub first_strange : List ℕ → ℕ
first_strange [] = 0
first_strange (c ∷ k) = cond (eqb c 48 || eqb c 49) (suc (first_strange k)) 0

-- 5: a character that is neither 0 nor 1
abbrev pub strange_key : List ℕ → Refusal
strange_key k = (5, ltb (first_strange k) (length k))

-- 6: last character 0 in a key other than the single 0
abbrev pub open_key : List ℕ → Refusal
open_key k = (6, ltb 1 (length k) && eqb (get_or k (length k - 1) 48) 48)

-- a text key is judged by these four, and then by what else the call may refuse
abbrev pub key_refusals : List ℕ → List Refusal → List Refusal
key_refusals k more = empty_key k ∷ long_key k ∷ strange_key k ∷ open_key k ∷ more

-- 7: numerator or denominator in lowest terms above 4294967295
abbrev pub out_of_range : Ratio → Refusal
out_of_range r = (7, ltb limit r.num || ltb limit r.den)

-- 7, for a step: its quotient above that
abbrev pub long_quotient : ℕ → Refusal
long_quotient a = (7, ltb limit a)

-- 8: not 1 to most; a cut width's most is 96, and that of the characters used at a place 160
abbrev pub outside : ℕ → ℕ → Refusal
outside most n = (8, eqb n 0 || ltb most n)

-- 9: column not of exactly 12 bytes
abbrev pub wrong_column : List ℕ → Refusal
wrong_column c = (9, not (eqb (length c) 12))
