-- The order of quotient lists, and that their values stand in it. The empty list is infinity. After equal quotients the
-- order turns round, so the arguments change places.
use Rattle.std.specs.Prelude.{◌≡◌, refl, Bool, true, false, not, cond, ◌⊎◌, List, [], ◌∷◌, ℕ, ◌+◌, ◌*◌, ◌≤◌, ◌<◌}
use Rattle.std.proofs.Common.{ap, inl, inr, mul-le-mul_right, mul-lt-mul_of_pos_right, arith}
use Rattle.std.proofs.lemmas.Bool.{false≢true}
use Rattle.std.proofs.Math.Decide.{dec_lt}
use Rattle.fractions.specs.Fractions.{Ratio, onto, value_of, Quotients, Form, EvenEnded}

-- l is below m: by the first quotient, or by the rest with the order turned round; what goes on is below infinity
pub data Less : List ℕ → List ℕ → Type 0 where
  smaller : {a b : ℕ} {l m : List ℕ} → a < b → Less (a ∷ l) (b ∷ m)
  reversed : (a : ℕ) {l m : List ℕ} → Less m l → Less (a ∷ l) (a ∷ m)
  finite : {a : ℕ} {l : List ℕ} → Less (a ∷ l) []

-- one of three
abbrev pub Compared : List ℕ → List ℕ → Type 0
Compared l m = Less l m ⊎ ((l ≡ m) ⊎ Less m l)

pub compared : (l m : List ℕ) → Compared l m
compared [] [] = inr (inl refl)
compared [] (b ∷ m) = inr (inr finite)
compared (a ∷ l) [] = inl finite
compared (a ∷ l) (b ∷ m) = by_first (dec_lt a b) (dec_lt b a) (compared l m)
  where
    by_rest : Compared l m → Compared (a ∷ l) (a ∷ m)
    by_rest (inl h) = inr (inr (reversed a h))
    by_rest (inr (inl e)) = inr (inl (ap {B = List ℕ} (λ r. a ∷ r) e))
    by_rest (inr (inr h)) = inl (reversed a h)

    by_first : Dec (a < b) → Dec (b < a) → Compared l m → Compared (a ∷ l) (b ∷ m)
    by_first (yes h) d c = inl (smaller h)
    by_first (no n) (yes h) c = inr (inr (smaller h))
    by_first (no n) (no k) c = let e : b ≡ a = omega arith in rw e (by_rest c)

-- the value of quotients from 1 on is above 1, or infinite, where they are even in number, and from 1 on where odd
pub record Spread (z : Bool) (v : Ratio) : Type 0 where
  pub low : cond z 0 1 ≤ v.den
  pub high : v.den < v.num + cond z 0 1

spread-onto : (z : Bool) (a : ℕ) (v : Ratio) → 1 ≤ a → Spread (not z) v → Spread z (onto a v)
spread-onto true a v h s = record { low = omega arith; high = omega (arith, mul-le-mul_right v.num h) }
spread-onto false a v h s = record { low = omega arith; high = omega (arith, mul-le-mul_right v.num h) }

pub value_spread : (z : Bool) (l : List ℕ) → Quotients z l → Spread z (value_of l)
value_spread true [] e = record { low = omega arith; high = omega arith }
value_spread false [] e = absurd (false≢true e)
value_spread z (a ∷ l) (h, t) = spread-onto z a (value_of l) h (value_spread (not z) l t)

pub spread-positive : (z : Bool) (v : Ratio) → Spread z v → 1 ≤ v.num
spread-positive true v s = omega arith
spread-positive false v s = omega arith

pub spread_proper : (z : Bool) (v : Ratio) → Spread z v → v.den ≤ v.num
spread_proper true v s = omega arith
spread_proper false v s = omega arith

-- cross products of two ratios
abbrev pub Under : Ratio → Ratio → Type 0
Under u v = u.num * v.den < v.num * u.den

under_smaller : (z : Bool) (a b : ℕ) (u v : Ratio) → a < b → Spread z u → Spread z v → Under (onto a u) (onto b v)
under_smaller true a b u v h s t =
    omega (arith, mul-le-mul_right (u.num * v.num) h, mul-lt-mul_of_pos_right s.high (spread-positive true v t))
under_smaller false a b u v h s t =
    omega (
      arith,
      mul-le-mul_right (u.num * v.num) h,
      mul-le-mul_right v.num s.high,
      mul-le-mul_right u.num t.low,
      spread-positive false u s,
    )

under_reversed : (a : ℕ) (u v : Ratio) → Under v u → Under (onto a u) (onto a v)
under_reversed a u v h = omega arith

pub quotients-form : (z : Bool) (l : List ℕ) → Quotients z l → Form z l
quotients-form z [] e = e
quotients-form z (a ∷ l) h = h.1

-- lists stand as their values do
pub less-under : (z : Bool) {l m : List ℕ} → Less l m → Form z l → Form z m → Under (value_of l) (value_of m)
less-under z (smaller {a = a} {b = b} {l = l} {m = m} h) s t =
    under_smaller (not z) a b (value_of l) (value_of m) h (value_spread (not z) l s) (value_spread (not z) m t)
less-under z (reversed a {l = l} {m = m} h) s t =
    under_reversed a (value_of l) (value_of m)
    (less-under (not z) h (quotients-form (not z) m t) (quotients-form (not z) l s))
less-under z (finite {a = a} {l = l}) s t =
    omega (arith, spread-positive (not z) (value_of l) (value_spread (not z) l s))

-- the even-ended form is unique: two of one value are equal
pub even_ended_unique : (l m : List ℕ) → EvenEnded l → EvenEnded m
    → (value_of l).num * (value_of m).den ≡ (value_of m).num * (value_of l).den → l ≡ m
even_ended_unique l m s t e = by_order (compared l m)
  where
    by_order : Compared l m → l ≡ m
    by_order (inl h) = absurd (omega (arith, less-under false h s t))
    by_order (inr (inl q)) = q
    by_order (inr (inr h)) = absurd (omega (arith, less-under false h t s))
