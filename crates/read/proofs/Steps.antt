-- One step of reading by forward convergents: what is found from a place on, by what the word there is.
use Rattle.std.specs.Prelude.{◌≡◌, refl, Bool, true, not, ℕ, ◌+◌, ◌/◌, ◌%◌, ◌^◌, ◌≤◌, ◌<◌, length, None, Ok, Err}
use Rattle.std.proofs.Common.{sym, ◌∙◌, true≢false, inl, inr, mul-le-mul_left, mul-le-mul_right, arith}
use Rattle.std.proofs.Math.Bool.{false}
use mathlib.Core.List.{[], ◌∷◌}
use Rattle.std.proofs.Math.Decide.{dec_lt}
use Rattle.bits.specs.Strings.{Bits}
use Rattle.families.specs.Families.{ended}
use Rattle.families.specs.Words.{first_number}
use Rattle.families.proofs.Published.{words1983}
use Rattle.fractions.specs.Fractions.{Ratio}
use Rattle.fractions.specs.Convergents.{convergent}
use Rattle.keys.specs.Size.{limit}
use Rattle.keys.specs.Places.{left_at, quotients_at}
use Rattle.keys.proofs.Places.{quotients-end, quotients-next, turned_within}
use Rattle.scan.specs.Taking.{took, taken_from}
use Rattle.scan.proofs.Told.{Goes, told, taken_size}
use Rattle.refusals.specs.declared.Refusal.{Refusal}
use Rattle.read.specs.Finding.{ratio_in, is_over, limited, found_from, Finds}
use Rattle.read.proofs.Next.{term_over, not_over, none_over, some-within}

-- a quotient over the limit makes a convergent that is
over_long : (a : ℕ) (u v : Ratio) → 1 ≤ u.num + u.den → limit < a → is_over (convergent a u v) ≡ true
over_long a u v h l = by_size (dec_lt 0 u.num)
  where
    by_size : Dec (0 < u.num) → is_over (convergent a u v) ≡ true
    by_size (yes k) = term_over (convergent a u v) (inl (omega (arith, mul-le-mul_left a k)))
    by_size (no k) =
        let d : 1 ≤ u.den = omega arith in
        term_over (convergent a u v) (inr (omega (arith, mul-le-mul_left a d)))

module _ {s : Bits} {used : ℕ} {z : Bool} where
  pub found-end : {u : ℕ} {v : Ratio} → Ok None ≡ taken_from z (left_at s used z) → u < 2 ^ 64
      → Finds s used z (ratio_in u) v u
  unfolding found_from
  found-end {u} t h =
      let g = told z (left_at s used z) (Ok None) t in
      let e : quotients_at words1983 s used z ≡ [] = quotients-end words1983 s used z g in
      let k : is_over (ratio_in u) ≡ false = not_over (ratio_in u) (omega arith) (omega arith) in
      record { number = rw e (omega arith); low = λ o. absurd (true≢false (sym (rw e at o) ∙ k)) }

  -- the convergent that the word there makes is over the limit
  first_over : {u v : Ratio} → ended z (left_at s used z) ≡ false
      → is_over (convergent (first_number z (left_at s used z)) u v) ≡ true → used < 2 ^ 32 → Finds s used z u v used
  unfolding found_from
  first_over g o h = record { number = rw (quotients-next words1983 s used z g, o) refl; low = λ w. h }

  pub found_long : {u v : Ratio} {e : Refusal} → Err e ≡ taken_from z (left_at s used z) → 1 ≤ u.num + u.den → used < 2 ^ 32
      → Finds s used z u v used
  found_long {u} {v} {e} t k h =
      let (_, g, l) = told z (left_at s used z) (Err e) t in
      first_over g (over_long (first_number z (left_at s used z)) u v k l) h

-- the word at a place is that of a, has n characters, and makes of u and v the convergent w, or 0
pub record Makes (s : Bits) (used : ℕ) (z : Bool) (u v a n w : ℕ) : Type 0 where
  pub taken : took a n ≡ taken_from z (left_at s used z)
  pub made : w ≡ limited (convergent a (ratio_in u) (ratio_in v))

module _ {s : Bits} {used : ℕ} {z : Bool} {u v a n w : ℕ} (e : Makes s used z u v a n w) where
  goes : Goes z (left_at s used z) a n
  goes = told z (left_at s used z) (took a n) e.taken

  pub word_size : (1 ≤ n) × (n ≤ 64)
  word_size = taken_size z (left_at s used z) (record { value = a; characters = n }) e.taken

  pub found_over : 1 ≤ u → w ≡ 0 → used < 2 ^ 32 → Finds s used z (ratio_in u) (ratio_in v) used
  found_over k o =
      let l = goes.positive in
      let x = convergent a (ratio_in u) (ratio_in v) in
      let m : 1 ≤ x.num + x.den =
      omega (arith, mul-le-mul_right (u % 2 ^ 32) l, mul-le-mul_right (u / 2 ^ 32) l) in
      first_over goes.going (rw goes.first (none_over x e.made m o))

  -- within the limit reading goes on
  pub found_on : {r : ℕ} → 1 ≤ w → Finds s (used + n) (not z) (ratio_in w) (ratio_in u) r
      → Finds s used z (ratio_in u) (ratio_in v) r
  unfolding found_from
  found_on {r} h f =
      let x = convergent a (ratio_in u) (ratio_in v) in
      let (o, m) = some-within x e.made h in
      let l : quotients_at words1983 s used z ≡ a ∷ quotients_at words1983 s (used + n) (not z) =
      rw (goes.count, ← goes.first) (quotients-next words1983 s used z goes.going) in
      let c : Finds s (used + n) (not z) x (ratio_in u) r = rw m at f in
      record { number = rw (l, o, ← goes.count) c.number; low = rw l c.low }

pub makes-within : {s : Bits} {used u v a n w : ℕ} → Makes s used true u v a n w → used < length s
makes-within {s} {used} e = turned_within s used (goes e).going
