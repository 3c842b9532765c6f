-- The scope's cases on both sides of each limit, run.
use Rattle.std.specs.Prelude.{◌≡◌, refl, true, false, List, [], ◌∷◌, ◌++◌, map, ℕ, replicate}
use Prim.Native.String.{String}
use Rattle.bits.specs.Strings.{Bits, bits_of}
use Rattle.bits.specs.Binary.{digits_in}
use Rattle.bits.specs.Texts.{text_of}
use Rattle.families.specs.Words.{digits_from, digits_after_one, word_of, first_number}
use Rattle.fractions.specs.Fractions.{divided_from, usual, gcd, lowest_terms, form_of}
use Rattle.keys.specs.Keys.{key_of, read_from, read}
use Rattle.outcomes.specs.Outcomes.{gives, refuses}
use Rattle.outcomes.specs.Refusals.{first_strange}
use Rattle.outcomes.specs.Writing.{write_text, write_column}
use Rattle.outcomes.specs.Reading.{read_text, read_column, reduce}
use Rattle.outcomes.specs.Packing.{column_to_text, text_to_column}
use Rattle.outcomes.specs.Comparing.{before, same, after, standing, compare_text}
use Rattle.outcomes.specs.Cutting.{cut_text}
use Rattle.outcomes.specs.Stepping.{place_of, start_text, quotient_at, step_text}

ones : ℕ → Bits
ones n = replicate n true

zeros : ℕ → Bits
zeros n = replicate n false

-- 32 ones are 2147483648/1; 33 and 96 are out of range; 97 are too long; 32 zeros and a 1 are out of range
limit_examples : map (λ s. read_text (text_of s))
    (ones 32 ∷ ones 33 ∷ ones 96 ∷ ones 97 ∷ (zeros 32 ++ (true ∷ [])) ∷ [])
    ≡ gives (2147483648 ∷ 1 ∷ []) [] ∷ refuses 7 2 [] ∷ refuses 7 2 [] ∷ refuses 4 2 [] ∷ refuses 7 2 [] ∷ []
unfolding ones zeros read_text first_strange first_number read read_from word_of digits_after_one digits_from
limit_examples = refl

-- no character, one that is neither 0 nor 1, a last 0, and the single 0
fault_examples : map read_text ([] ∷ (49 ∷ 50 ∷ []) ∷ (48 ∷ 48 ∷ []) ∷ (48 ∷ 49 ∷ 48 ∷ []) ∷ (48 ∷ []) ∷ [])
    ≡ refuses 3 2 [] ∷ refuses 5 2 [] ∷ refuses 6 2 [] ∷ refuses 6 2 [] ∷ gives (0 ∷ 1 ∷ []) [] ∷ []
unfolding read_text first_strange first_number read read_from word_of digits_after_one digits_from
fault_examples = refl

-- lent memory, before a call
sevens : ℕ → List ℕ
sevens n = replicate n 7

-- 19/44 as text: 96 bytes suffice and 95 don't; only the key's own bytes change
text_examples : map (write_text 19 44) (sevens 96 ∷ sevens 95 ∷ [])
    ≡ gives (11 ∷ 4 ∷ []) (text_of (bits_of "00111010011") ++ sevens 85) ∷ refuses 2 2 (sevens 95) ∷ []
unfolding sevens write_text key_of form_of usual divided_from word_of digits_after_one digits_from bits_of
text_examples = refl

-- as a column: 12 bytes suffice and 11 don't; a denominator of 0 comes before the buffer
column_examples : map (write_column 19 44) (sevens 13 ∷ sevens 11 ∷ []) ++ (write_column 7 0 (sevens 11) ∷ [])
    ≡ gives (11 ∷ 4 ∷ []) (0x3a ∷ 0x60 ∷ replicate 10 0 ++ sevens 1)
    ∷ refuses 2 2 (sevens 11) ∷ refuses 1 2 (sevens 11) ∷ []
unfolding sevens write_column key_of form_of usual divided_from word_of digits_after_one digits_from
column_examples = refl

-- columns of 11, 12 and 13 bytes; twelve zero bytes are zero
length_examples : map (λ n. read_column (replicate n 0)) (11 ∷ 12 ∷ 13 ∷ [])
    ≡ refuses 9 2 [] ∷ gives (0 ∷ 1 ∷ []) [] ∷ refuses 9 2 [] ∷ []
unfolding read_column digits_in first_number read read_from word_of digits_after_one digits_from
length_examples = refl

-- changing between the two doesn't look at range: 33 ones have a column, and come back from it
change_examples : (text_to_column (text_of (ones 33)) (sevens 12) ≡ gives [] (replicate 4 255 ++ (128 ∷ replicate 7 0)))
    × (column_to_text (replicate 4 255 ++ (128 ∷ replicate 7 0)) (sevens 96)
    ≡ gives (33 ∷ []) (text_of (ones 33) ++ sevens 63))
unfolding ones sevens text_to_column column_to_text first_strange digits_in
change_examples = (refl, refl)

-- 2/4 in lowest terms, and a denominator of 0
lowest_examples : (reduce 2 4 ≡ gives (1 ∷ 2 ∷ []) []) × (reduce 2 0 ≡ refuses 1 2 [])
unfolding reduce lowest_terms gcd divided_from
lowest_examples = (refl, refl)

text : String → List ℕ
text s = text_of (bits_of s)

-- comparing, both ways and with itself: 5/16, 19/44 and 22/7; range isn't looked at; of two bad keys the first decides
compare_examples : compare_text (text "001011001") (text "00111010011")
    ∷ compare_text (text "110100101") (text "001011001") ∷ compare_text (text "01") (text "01")
    ∷ compare_text (text_of (ones 33)) (text_of (ones 96)) ∷ compare_text (text "10") []
    ∷ compare_text (text "1") (text_of (ones 97)) ∷ []
    ≡ gives (before ∷ []) [] ∷ gives (after ∷ []) [] ∷ gives (same ∷ []) [] ∷ gives (before ∷ []) []
    ∷ refuses 6 1 [] ∷ refuses 4 1 [] ∷ []
unfolding ones text compare_text standing first_strange bits_of
compare_examples = refl

-- 26/161 cut to 5 is 0001, and to 96 it stays; widths 1 and 96 are taken, 0 and 97 aren't; the width comes before the
-- buffer
cut_examples : map (λ n. cut_text (text "0001011100100111") n (sevens 96)) (5 ∷ 1 ∷ 96 ∷ 0 ∷ 97 ∷ [])
    ++ (cut_text (text "1") 97 (sevens 95) ∷ cut_text (text "1") 96 (sevens 95) ∷ [])
    ≡ gives (4 ∷ []) (text "0001" ++ sevens 92) ∷ gives (1 ∷ []) (text "0" ++ sevens 95)
    ∷ gives (16 ∷ []) (text "0001011100100111" ++ sevens 80) ∷ refuses 8 1 (sevens 96) ∷ refuses 8 1 (sevens 96)
    ∷ refuses 8 1 (sevens 95) ∷ refuses 2 1 (sevens 95) ∷ []
unfolding sevens text cut_text first_strange bits_of
cut_examples = refl

-- the key of 1/4294967295 cut to 33 is that of 1/4294967296, which reading refuses
out_of_range_example : cut_text (text_of (zeros 32 ++ (true ∷ zeros 30) ++ (true ∷ []))) 33 (sevens 96)
    ≡ gives (33 ∷ []) (text_of (zeros 32 ++ (true ∷ [])) ++ sevens 63)
unfolding zeros sevens cut_text first_strange
out_of_range_example = refl

-- 19/44: 2, 3, 5, 1, the end
step_examples : start_text (text "00111010011")
    ∷ map (λ (u, z). step_text (text "00111010011") u z)
    ((1, true) ∷ (4, false) ∷ (7, true) ∷ (12, false) ∷ (13, true) ∷ [])
    ≡ gives (place_of 1 true) []
    ∷ gives (1 ∷ 2 ∷ []) (place_of 4 false) ∷ gives (1 ∷ 3 ∷ []) (place_of 7 true)
    ∷ gives (1 ∷ 5 ∷ []) (place_of 12 false) ∷ gives (1 ∷ 1 ∷ []) (place_of 13 true)
    ∷ gives (0 ∷ 0 ∷ []) (place_of 13 true) ∷ []
unfolding text start_text step_text quotient_at first_strange first_number word_of digits_after_one digits_from bits_of
step_examples = refl

-- places 1 and 160 are taken, 0 and 161 aren't; 33 ones begin with too long a run; 32 zeros and a 1 begin with the
-- largest quotient
place_examples : map (λ u. step_text (text "1") u false) (0 ∷ 1 ∷ 160 ∷ 161 ∷ [])
    ++ (step_text (text_of (ones 33)) 1 false ∷ step_text (text_of (zeros 32 ++ (true ∷ []))) 1 true ∷ [])
    ≡ refuses 8 2 (place_of 0 false) ∷ gives (1 ∷ 1 ∷ []) (place_of 2 true) ∷ gives (1 ∷ 1 ∷ []) (place_of 161 true)
    ∷ refuses 8 2 (place_of 161 false) ∷ refuses 7 2 (place_of 1 false)
    ∷ gives (1 ∷ 4294967295 ∷ []) (place_of 64 false) ∷ []
unfolding ones zeros text step_text quotient_at first_strange first_number word_of digits_after_one digits_from bits_of
place_examples = refl
