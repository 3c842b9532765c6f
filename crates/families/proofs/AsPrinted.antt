-- Table 1 of 001 comes out by running the words, both ways; so does the string that section III puts together of the
-- words of 27, 6, 4, 13 and 2, the first of which section II takes apart.
use Rattle.std.specs.Prelude.{◌≡◌, refl, false, List, [], ◌∷◌, ◌++◌, map, ℕ, zero, suc}
use Prim.Native.String.{String}
use Rattle.bits.specs.Strings.{bits_of}
use Rattle.families.specs.Words.{digits_from, digits_after_one, word_of, first_number}

-- the words that Table 1 prints for 1, 2, .., 20
table1 : List String
table1 =
    "0" ∷ "100" ∷ "101" ∷ "11000" ∷ "11001" ∷ "11010" ∷ "11011"
    ∷ "1110000" ∷ "1110001" ∷ "1110010" ∷ "1110011" ∷ "1110100" ∷ "1110101" ∷ "1110110" ∷ "1110111"
    ∷ "111100000" ∷ "111100001" ∷ "111100010" ∷ "111100011" ∷ "111100100" ∷ []

-- i, i + 1, .., n of them
counted : ℕ → ℕ → List ℕ
counted zero i = []
counted (suc n) i = i ∷ counted n (suc i)

table-words : map word_of (counted 20 1) ≡ map bits_of table1
unfolding table1 counted bits_of word_of digits_after_one digits_from
table-words = refl

table-numbers : map (first_number false) (map bits_of table1) ≡ counted 20 1
unfolding table1 counted bits_of first_number
table-numbers = refl

sequence_example : word_of 27 ++ word_of 6 ++ word_of 4 ++ word_of 13 ++ word_of 2 ≡ bits_of "11110101111010110001110101100"
unfolding bits_of word_of digits_after_one digits_from
sequence_example = refl

first_example : first_number false (bits_of "11110101111010110001110101100") ≡ 27
unfolding bits_of first_number
first_example = refl
