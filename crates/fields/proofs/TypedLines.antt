-- Feeding: no byte leaves a field blank, and a line that is fed byte by byte types the ratio that its bytes say.
use Rattle.std.specs.Prelude.{◌≡◌, Bool, cond, not, ◌&&◌, ◌||◌, ◌⊎◌, ℕ, zero, suc, ◌+◌, ◌-◌, ◌*◌, ◌≤◌, ◌<◌, eqb, ltb}
use Rattle.std.specs.Prelude.{length, Result, Ok, Err}
use Rattle.std.proofs.Math.Path.{refl}
use Rattle.std.proofs.Common.{sym, ◌∙◌, inl, inr, arith, ltb-true, ltb-false, eqb-true, lt-ltb, le-ltb}
use Rattle.std.proofs.Math.Bool.{true, false, and-true, and-false, or-true}
use mathlib.Core.List.{List, [], ◌∷◌, foldl}
use Rattle.std.proofs.Math.Dec.{eqb-suc-zero}
use Rattle.keys.specs.Size.{limit}
use Rattle.numerals.specs.Numerals.{is_digit, all_digits, value_from, value_of}
use Rattle.outcomes.specs.Outcomes.{leaves, called}
use Rattle.outcomes.specs.Typing.{before_slash, after_slash, is_numeral, is_shaped, numerator_of, denominator_of}
use Rattle.outcomes.specs.Typing.{large_numeral, typed_ratio}
use Rattle.fields.specs.declared.Field.{Field}
use Rattle.fields.specs.declared.Field.TheVariants.{Empty, First, Second, Bad}
use Rattle.fields.specs.declared.Numeral.{Numeral}
use Rattle.fields.specs.Fields.{grown, longer, fed_digit, fed_slash, fed_by, is_blank, typed_of}
use Rattle.fractions.specs.declared.Fraction.{Fraction}
use Rattle.refusals.specs.declared.Refusal.{Refusal}
use Rattle.refusals.specs.declared.Refusal.TheVariants.{Malformed, OutOfRange}
use Rattle.refusals.specs.Answers.{answered, terms_as}

-- what holds of both holds of the one that is chosen
pub chosen : {A : Type 0} (P : A → Type 0) (b : Bool) {x y : A} → P x → (b ≡ false → P y) → P (cond b x y)
chosen P true h k = h
chosen P false h k = k refl

-- something was fed
abbrev Some : Field → Type 0
Some s = is_blank s ≡ false

digit_some : (s : Field) (d : ℕ) → Some (fed_digit s d)
digit_some Empty d = refl
digit_some (First n) d = chosen Some (ltb n.digits 10) refl (λ _. refl)
digit_some (Second n p) d = chosen Some (ltb n.digits 10) refl (λ _. refl)
digit_some Bad d = refl

slash_some : (s : Field) → Some (fed_slash s)
slash_some Empty = refl
slash_some (First n) = refl
slash_some (Second n p) = refl
slash_some Bad = refl

pub fed_not_blank : (s : Field) (c : ℕ) → is_blank (fed_by s c) ≡ false
fed_not_blank s c =
    chosen Some (is_digit c) (digit_some s (c - 48)) (λ _. chosen Some (eqb c 47) (slash_some s) (λ _. refl))

-- what is typed, by whether the line has the shape and what its numerals stand for
abbrev pub typed_by : Bool → ℕ → ℕ → Result Fraction Refusal
typed_by shaped p q =
    cond shaped
    (cond (ltb limit p || ltb limit q) (Err OutOfRange) (Ok (record { numerator = p; denominator = q })))
    (Err Malformed)

-- whether n digits and those of t are a numeral
abbrev ends_numeral : ℕ → List ℕ → Bool
ends_numeral n [] = ltb 0 n
ends_numeral n (c ∷ t) = is_digit c && (ltb n 10 && ends_numeral (n + 1) t)

-- it is one where all are digits and they are 1 to 10, m in all
numeral-ended : (n m : ℕ) (t : List ℕ) → m ≡ length t + n → n < 11
    → ends_numeral n t ≡ (all_digits t && (ltb 0 m && ltb m 11))
numeral-ended n m [] e h = let same : m ≡ n = omega arith in rw (same, lt-ltb n 11, and-true)
numeral-ended n m (c ∷ t) e h = by_tests (is_digit c) (ltb n 10) refl (numeral-ended (n + 1) m t (omega arith))
  where
    by_tests : (d b : Bool) → ltb n 10 ≡ b
        → (n + 1 < 11 → ends_numeral (n + 1) t ≡ (all_digits t && (ltb 0 m && ltb m 11)))
        → (d && (b && ends_numeral (n + 1) t)) ≡ (d && all_digits t && (ltb 0 m && ltb m 11))
    by_tests false b f more = refl
    by_tests true true f more = more (omega (arith, ltb-true n 10 f))
    by_tests true false f more = simp (le-ltb m 11 (omega (arith, ltb-false n 10 f)), and-false)

numeral_is : (t : List ℕ) → ends_numeral 0 t ≡ is_numeral t
numeral_is t = numeral-ended 0 (length t) t (omega arith) (omega arith)

-- n digits that stand for v
abbrev numeral : ℕ → ℕ → Numeral
numeral n v = record { digits = n; value = v }

-- one number is kept for another: the same, or both over the limit
abbrev Alike : ℕ → ℕ → Type 0
Alike v w = (v ≡ w) ⊎ ((limit < v) × (limit < w))

alike-grown : (v w d : ℕ) → Alike v w → Alike (grown v d) (w * 10 + d)
alike-grown v w d (inr (h, k)) = rw (lt-ltb limit v h) (inr (h, omega arith))
alike-grown v w d (inl e) = by_test (ltb limit v) refl
  where
    by_test : (b : Bool) → ltb limit v ≡ b → Alike (cond b v (v * 10 + d)) (w * 10 + d)
    by_test true f = let h = ltb-true limit v f in inr (h, omega arith)
    by_test false f = inl (omega arith)

alike_typed : (p r v w : ℕ) → Alike p r → Alike v w → typed_by true p v ≡ typed_by true r w
alike_typed p r v w (inr (h, k)) b = rw (lt-ltb limit p h, lt-ltb limit r k)
alike_typed p r v w (inl e) (inr (h, k)) = rw (e, lt-ltb limit v h, lt-ltb limit w k, or-true)
alike_typed p r v w (inl e) (inl f) = rw (e, f)

bad_chosen : (b : Bool) → cond b Bad Bad ≡ Bad
bad_chosen b = chosen (λ s. s ≡ Bad) b refl (λ _. refl)

-- what is bad stays bad
bad_typed : (t : List ℕ) → typed_of (foldl fed_by Bad t) ≡ Err Malformed
bad_typed [] = refl
bad_typed (c ∷ t) = rw (bad_chosen (eqb c 47), bad_chosen (is_digit c)) (bad_typed t)

-- a digit (d) where there is room for one (b) leads to next, and all else to what is bad; f says what is typed
digit_fed : (f : Bool → Result Fraction Refusal) → f false ≡ Err Malformed → (d b x : Bool) (next : Field) (t : List ℕ)
    → typed_of (foldl fed_by next t) ≡ f x
    → typed_of (foldl fed_by (cond d (cond b next Bad) Bad) t) ≡ f (d && (b && x))
digit_fed f e true true x next t h = h
digit_fed f e true false x next t h = bad_typed t ∙ sym e
digit_fed f e false b x next t h = bad_typed t ∙ sym e

-- the denominator: t goes on n digits that stand for w, for which v is kept
second_typed : (p r n v w : ℕ) (t : List ℕ) → Alike p r → Alike v w
    → typed_of (foldl fed_by (Second (numeral n v) p) t) ≡ typed_by (ends_numeral n t) r (value_from w t)
second_typed p r zero v w [] a b = refl
second_typed p r (suc n) v w [] a b = rw (eqb-suc-zero n, lt-ltb 0 (suc n) (omega arith)) (alike_typed p r v w a b)
second_typed p r n v w (c ∷ t) a b =
    rw (bad_chosen (eqb c 47))
    (digit_fed (λ x. typed_by x r (value_from w (c ∷ t))) refl (is_digit c) (ltb n 10) (ends_numeral (n + 1) t)
    (Second (longer (numeral n v) (c - 48)) p) t
    (second_typed p r (n + 1) (grown v (c - 48)) (w * 10 + (c - 48)) t a (alike-grown v w (c - 48) b)))

-- what first, a slash and second type behind n digits that stand for w
abbrev typed_behind : ℕ → ℕ → List ℕ → List ℕ → Result Fraction Refusal
typed_behind n w first second =
    typed_by (ends_numeral n first && ends_numeral 0 second) (value_from w first) (value_of second)

-- one byte more, and then t: after a slash, and after a digit, which leads to next
module _ (s next : Field) (n w c : ℕ) (t : List ℕ)
    (slash : typed_of (foldl fed_by (fed_slash s) t) ≡ typed_behind n w [] t)
    (digit : fed_digit s (c - 48) ≡ cond (ltb n 10) next Bad)
    (more : typed_of (foldl fed_by next t)
    ≡ typed_behind (n + 1) (w * 10 + (c - 48)) (before_slash t) (after_slash t)) where
  byte_typed : (b : Bool) → eqb c 47 ≡ b
      → typed_of (foldl fed_by s (c ∷ t)) ≡ typed_behind n w (before_slash (c ∷ t)) (after_slash (c ∷ t))
  unfolding before_slash after_slash
  byte_typed true e = rw (eqb-true c 47 e) slash
  byte_typed false e =
      let rest = after_slash t in
      rw (e, digit)
      (digit_fed (λ x. typed_by (x && ends_numeral 0 rest) (value_from w (c ∷ before_slash t)) (value_of rest)) refl
      (is_digit c) (ltb n 10) (ends_numeral (n + 1) (before_slash t)) next t more)

-- the numerator: the line goes on n digits that stand for w, for which v is kept
first_typed : (n v w : ℕ) (l : List ℕ) → 1 ≤ n → Alike v w
    → typed_of (foldl fed_by (First (numeral n v)) l) ≡ typed_behind n w (before_slash l) (after_slash l)
unfolding before_slash after_slash
first_typed n v w [] h a = rw and-false
first_typed n v w (c ∷ t) h a =
    byte_typed (First (numeral n v)) (First (longer (numeral n v) (c - 48))) n w c t
    (rw (lt-ltb 0 n h) (second_typed v w 0 0 0 t a (inl refl))) refl
    (first_typed (n + 1) (grown v (c - 48)) (w * 10 + (c - 48)) t (omega arith) (alike-grown v w (c - 48) a))
    (eqb c 47) refl

empty_typed : (l : List ℕ) → typed_of (foldl fed_by Empty l) ≡ typed_behind 0 0 (before_slash l) (after_slash l)
unfolding before_slash after_slash
empty_typed [] = refl
empty_typed (c ∷ t) =
    byte_typed Empty (First (numeral 1 (c - 48))) 0 0 c t (bad_typed t) refl
    (first_typed 1 (c - 48) (0 * 10 + (c - 48)) t (omega arith) (inl (omega arith))) (eqb c 47) refl

-- what is typed byte by byte is what the line's bytes say
pub line_typed : (l : List ℕ)
    → typed_of (foldl fed_by Empty l) ≡ typed_by (is_shaped l) (numerator_of l) (denominator_of l)
line_typed l = rw (numeral_is (before_slash l), numeral_is (after_slash l)) at (empty_typed l)

typed_called : (shaped large : Bool) (r : Fraction)
    → leaves (answered 2 terms_as (cond shaped (cond large (Err OutOfRange) (Ok r)) (Err Malformed))) []
    ≡ called ((10, not shaped) ∷ (7, large) ∷ []) (terms_as r) [] []
typed_called false large r = refl
typed_called true false r = refl
typed_called true true r = refl

-- and so it is the outcome of reading the line
pub field_typed : (l : List ℕ) → leaves (answered 2 terms_as (typed_of (foldl fed_by Empty l))) [] ≡ typed_ratio l
unfolding typed_ratio
field_typed l =
    rw (line_typed l)
    (typed_called (is_shaped l) (large_numeral l).1
    (record { numerator = numerator_of l; denominator = denominator_of l }))
