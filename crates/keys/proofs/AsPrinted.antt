-- What 001 and the scope print of keys, beside the table of whole keys, comes out by running the definitions.
use Rattle.std.specs.Prelude.{◌≡◌, refl, true, [], ◌∷◌, map, replicate}
use Rattle.bits.specs.Strings.{bits_of}
use Rattle.families.specs.Words.{digits_from, digits_after_one, word_of, first_number}
use Rattle.families.proofs.Published.{words1983}
use Rattle.fractions.specs.Fractions.{◌over◌, divided_from, usual, form_of}
use Rattle.keys.specs.Keys.{written, key_of, read_from, read, quotients_of, value_of_key, count_of, cut_to, column_of}

-- 19/44 (section III): the string before its zeros are dropped, and the count of its quotients
written_example : written words1983 (form_of 19 44) ≡ bits_of "0011101001100"
unfolding form_of usual divided_from word_of digits_after_one digits_from bits_of
written_example = refl

count_example : count_of (form_of 19 44) ≡ 4
unfolding form_of usual divided_from
count_example = refl

-- 314/100, which isn't in lowest terms
key_example : key_of words1983 314 100 ≡ bits_of "11010010011011"
unfolding key_of form_of usual divided_from word_of digits_after_one digits_from bits_of
key_example = refl

-- the strings that section III reads, as 3, 7, 15 and, in registers, as 0, 3, 5
reading_example : map (quotients_of words1983) (bits_of "1101001001110111" ∷ bits_of "001011001" ∷ [])
    ≡ (3 ∷ 7 ∷ 15 ∷ []) ∷ (0 ∷ 3 ∷ 5 ∷ []) ∷ []
unfolding read read_from word_of digits_after_one digits_from first_number bits_of
reading_example = refl

-- the columns of 19/44 and 26/161
column_example : map column_of (key_of words1983 19 44 ∷ key_of words1983 26 161 ∷ [])
    ≡ (0x3a ∷ 0x60 ∷ replicate 10 0) ∷ (0x17 ∷ 0x27 ∷ replicate 10 0) ∷ []
unfolding key_of form_of usual divided_from word_of digits_after_one digits_from
column_example = refl

-- 26/161 cut to 5 is 1/8
cut_example : cut_to 5 (key_of words1983 26 161) ≡ bits_of "0001"
unfolding key_of form_of usual divided_from word_of digits_after_one digits_from bits_of
cut_example = refl

cut_value_example : value_of_key words1983 (bits_of "0001") ≡ 1 over 8
unfolding read read_from word_of digits_after_one digits_from first_number bits_of
cut_value_example = refl

-- 46 quotients, the most for 32 bits
count_most : count_of (form_of 1836311903 2971215073) ≡ 46
unfolding form_of usual divided_from
count_most = refl

-- 32 ones
ones_example : value_of_key words1983 (replicate 32 true) ≡ 2147483648 over 1
unfolding read read_from word_of digits_after_one digits_from first_number
ones_example = refl

-- a key cut out of the range of 32 bits
range_example : cut_to 33 (key_of words1983 1 4294967295) ≡ key_of words1983 1 4294967296
unfolding key_of form_of usual divided_from word_of digits_after_one digits_from
range_example = refl
