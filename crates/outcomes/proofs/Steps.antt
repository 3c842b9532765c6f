-- Stepping from the start gives exactly the quotients that are written, each once, and then the end.
use Rattle.std.specs.Prelude.{◌≡◌, Bool, true, false, cond, ℕ, ◌+◌, ◌≤◌, ◌<◌, length, get_or}
use Rattle.std.proofs.Math.Path.{refl}
use Rattle.std.proofs.Common.{sym, ◌∙◌, inl, inr, arith, lt-ltb, le-ltb, drop_of_length-le}
use Rattle.std.proofs.Math.Bool.{not}
use mathlib.Core.List.{List, [], ◌∷◌, nil≢cons, head-eq_of_cons-eq, tail-eq_of_cons-eq}
use Rattle.std.proofs.Math.Decide.{dec_lt}
use Rattle.std.proofs.lemmas.List.{length-map}
use Rattle.bits.specs.Strings.{Bits}
use Rattle.bits.specs.Texts.{bits_of_text}
use Rattle.families.specs.Families.{ended}
use Rattle.families.specs.Words.{word_of, first_number, digits_from, digits_after_one}
use Rattle.families.proofs.Complete.{word_complete}
use Rattle.families.proofs.Published.{words1983}
use Rattle.fractions.specs.Fractions.{form_of, ◌over◌}
use Rattle.keys.specs.Keys.{without_zero, Canonical, value_of_key}
use Rattle.keys.specs.Size.{limit}
use Rattle.keys.proofs.Size.{word-fits}
use Rattle.keys.proofs.Back.{canonical-some, value_form}
use Rattle.keys.specs.Places.{left_at, quotients_at}
use Rattle.keys.proofs.Places.{quotients-end, quotients-next, quotients-first, turned_within}
use Rattle.outcomes.specs.Outcomes.{gives, refuses, called}
use Rattle.outcomes.specs.Refusals.{key_refusals, outside, long_quotient}
use Rattle.outcomes.specs.Laws.{Clear}
use Rattle.outcomes.proofs.Laws.{clear-called}
use Rattle.outcomes.specs.Stepping.{place_of, start_text, quotient_at, found, place_after, step_text, Steps}
use Rattle.outcomes.proofs.TextKeys.{clear-canonical, judged-called}
use Rattle.outcomes.proofs.Cuts.{inside}

-- a text key without fault, and its bits
module _ (k : List ℕ) (clear : Clear (key_refusals k [])) where
  abbrev s : Bits
  s = bits_of_text k

  canonical : Canonical s
  canonical = (clear-canonical k clear).0

  size : length s ≤ 96
  size = rw length-map (clear-canonical k clear).1.0

  -- what a step gives at a place that isn't outside, by the quotient there
  module _ (used : ℕ) (z : Bool) (some : 1 ≤ used) (few : used ≤ 160) where
    abbrev a : ℕ
    a = quotient_at s used z

    stepped : step_text k used z
        ≡ called (long_quotient a ∷ []) (found a) (place_of used z) (place_after a used z)
    unfolding step_text
    stepped =
        judged-called k (outside 160 used ∷ long_quotient a ∷ []) (found a) (place_of used z) (place_after a used z) clear
        ∙ rw (inside 160 used some few) refl

    step_long : limit < a → step_text k used z ≡ refuses 7 2 (place_of used z)
    step_long h = stepped ∙ rw (lt-ltb limit a h) refl

    step-given : a ≤ limit → step_text k used z ≡ gives (found a) (place_after a used z)
    step-given h = stepped ∙ rw (le-ltb limit a h) refl

  -- past the end a word is that of 1
  word_past : (used : ℕ) → length s ≤ used → length (word_of (first_number false (left_at s used false))) ≡ 1
  unfolding word_of first_number digits_after_one digits_from
  word_past used h = rw (drop_of_length-le s h) refl

  -- a place from which stepping stays within 160 characters: before a word there is room for one more
  abbrev Within : ℕ → Bool → Type 0
  Within used z = used + cond z 0 1 ≤ 160

  within-next : (used : ℕ) (z : Bool) → ended z (left_at s used z) ≡ false → Within used z
      → let a = first_number z (left_at s used z) in
      a ≤ limit → Within (used + length (word_of a)) (not z)
  within-next used true e h l =
      let a = first_number true (left_at s used true) in
      omega (
        arith,
        turned_within s used e,
        size,
        word-fits words1983 a (word_complete true (left_at s used true) e).0 l,
      )
  within-next used false e h l = by_size (dec_lt used (length s))
    where
      a : ℕ
      a = first_number false (left_at s used false)

      by_size : Dec (used < length s) → Within (used + length (word_of a)) true
      by_size (yes n) = omega (
        arith,
        size,
        word-fits words1983 a (word_complete false (left_at s used false) e).0 l,
      )
      by_size (no n) = omega (arith, word_past used (omega arith))

  -- the quotients l stand from a place on, and stepping stays within 160 from there
  record From (used : ℕ) (z : Bool) (l : List ℕ) : Type 0 where
    some : 1 ≤ used
    within : Within used z
    quotients : quotients_at words1983 s used z ≡ l

  -- at the end
  steps-end : (used : ℕ) (z : Bool) (l : List ℕ) → From used z l → ended z (left_at s used z) ≡ true → Steps k used z l
  unfolding quotient_at
  steps-end used z l f e =
      rw (sym f.quotients ∙ quotients-end words1983 s used z e)
      (step-given used z f.some (omega (arith, f.within)) (rw e (omega arith)) ∙ rw e refl)

  -- before a word
  steps-next : (used : ℕ) (z : Bool) (b : ℕ) (l : List ℕ) → From used z (b ∷ l) → ended z (left_at s used z) ≡ false
      → ((next : ℕ) (y : Bool) → From next y l → Steps k next y l) → Steps k used z (b ∷ l)
  unfolding quotient_at
  steps-next used z b l f e again = by_size (dec_lt limit b)
    where
      few : used ≤ 160
      few = omega (arith, f.within)

      a : ℕ
      a = first_number z (left_at s used z)

      next : ℕ
      next = used + length (word_of a)

      both : a ∷ quotients_at words1983 s next (not z) ≡ b ∷ l
      both = sym (quotients-next words1983 s used z e) ∙ f.quotients

      same : a ≡ b
      same = head-eq_of_cons-eq both

      first : quotient_at s used z ≡ b
      first = rw e same

      positive : 1 ≤ b
      positive = rw same at (word_complete z (left_at s used z) e).0

      by_size : Dec (limit < b) → Steps k used z (b ∷ l)
      by_size (yes h) = inl (h, step_long used z f.some few (rw first h))
      by_size (no h) =
          let low : b ≤ limit = omega arith in
          let within : Within next (not z) = within-next used z e f.within (rw same low) in
          inr (
            next,
            omega (arith, within),
            step-given used z f.some few (rw first low) ∙ rw (first, same, lt-ltb 0 b positive) refl,
            again next (not z) (record {
              some = omega (arith, f.some);
              within = within;
              quotients = tail-eq_of_cons-eq both;
            }),
          )

  steps_on : (l : List ℕ) (used : ℕ) (z : Bool) → From used z l → Steps k used z l
  steps_on [] used z f = by_test (ended z (left_at s used z)) refl
    where
      by_test : (t : Bool) → ended z (left_at s used z) ≡ t → Steps k used z []
      by_test true e = steps-end used z [] f e
      by_test false e = absurd (nil≢cons (sym f.quotients ∙ quotients-next words1983 s used z e))
  steps_on (b ∷ l) used z f = by_test (ended z (left_at s used z)) refl (steps_on l)
    where
      by_test : (t : Bool) → ended z (left_at s used z) ≡ t
          → ((next : ℕ) (y : Bool) → From next y l → Steps k next y l) → Steps k used z (b ∷ l)
      by_test true e again = steps-end used z (b ∷ l) f e
      by_test false e again = steps-next used z b l f e again

  within-first : (z : Bool) → Within 1 z
  within-first true = omega arith
  within-first false = omega arith

  pub text-stepped : (p q : ℕ) → value_of_key words1983 s ≡ p over q
      → (z : Bool) × (start_text k ≡ gives (place_of 1 z) []) × Steps k 1 z (without_zero (form_of p q))
  unfolding start_text
  text-stepped p q v =
      let z = not (get_or s 0 false) in (
        z,
        clear-called (key_refusals k []) (place_of 1 z) [] [] clear,
        steps_on (without_zero (form_of p q)) 1 z (record {
          some = omega arith;
          within = within-first z;
          quotients = rw (value_form words1983 s p q v) (quotients-first words1983 s (canonical-some s canonical));
        }),
      )
