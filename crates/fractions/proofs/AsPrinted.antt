-- The continued fractions that 001 prints, and lowest terms, come out by running the definitions.
use Rattle.std.specs.Prelude.{◌≡◌, refl, [], ◌∷◌, map}
use Rattle.fractions.specs.Convergents.{forward}
use Rattle.fractions.specs.Fractions.{◌over◌, value_of, divided_from, usual, gcd, lowest_terms, form_of}

usual_example : usual 19 44 ≡ 0 ∷ 2 ∷ 3 ∷ 6 ∷ []
unfolding usual divided_from
usual_example = refl

-- 19/44, 22/7 and 314/100
form_example : form_of 19 44 ∷ form_of 22 7 ∷ form_of 314 100 ∷ []
    ≡ (0 ∷ 2 ∷ 3 ∷ 5 ∷ 1 ∷ []) ∷ (3 ∷ 6 ∷ 1 ∷ []) ∷ (3 ∷ 7 ∷ 7 ∷ []) ∷ []
unfolding form_of usual divided_from
form_example = refl

-- 19/44 and its neighbours
value_example : map value_of ((0 ∷ 2 ∷ 3 ∷ 6 ∷ []) ∷ (0 ∷ 2 ∷ 4 ∷ 6 ∷ []) ∷ (0 ∷ 2 ∷ 3 ∷ 7 ∷ []) ∷ [])
    ≡ (19 over 44) ∷ (25 over 56) ∷ (22 over 51) ∷ []
value_example = refl

-- the convergents that the registers hold on the way to 5/16
convergent_example : map (forward (1 over 0) (0 over 1)) ((0 ∷ []) ∷ (0 ∷ 3 ∷ []) ∷ (0 ∷ 3 ∷ 5 ∷ []) ∷ [])
    ≡ (0 over 1) ∷ (1 over 3) ∷ (5 over 16) ∷ []
convergent_example = refl

lowest_example : lowest_terms 314 100 ≡ 157 over 50
unfolding lowest_terms gcd divided_from
lowest_example = refl

zero_example : lowest_terms 0 5 ≡ 0 over 1
unfolding lowest_terms gcd divided_from
zero_example = refl
