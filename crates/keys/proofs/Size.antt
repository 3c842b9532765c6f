-- Size, over any family: for numerator and denominator of at most 32 bits the string that is written has at most 96
-- characters, before zeros are dropped and after, and at most 46 quotients are written.
use Rattle.std.specs.Prelude.{◌≡◌, Bool, true, false, not, List, [], ◌∷◌, ℕ, zero, suc, ◌+◌, ◌*◌, ◌^◌, ◌≤◌, ◌<◌, length, replicate}
use Rattle.std.proofs.lemmas.Bool.{false≢true}
use Rattle.std.proofs.Common.{mul-le-mul, mul-le-mul_left, mul-le-mul_right, add-le-add, le_of_suc-le-suc, arith, pow-add, pow_mono, length-append}
use Rattle.std.proofs.Math.Nat.{le_trans}
use Rattle.std.proofs.Math.Decide.{dec_lt}
use Rattle.std.proofs.lemmas.List.{length-map}
use Rattle.bits.proofs.Trim.{closed-length}
use Rattle.families.specs.Families.{Family}
use Rattle.fractions.specs.Fractions.{Ratio, value_of, form_of, Quotients, EvenEnded}
use Rattle.fractions.proofs.Lists.{value_spread, spread-positive, spread_proper}
use Rattle.fractions.proofs.Euclid.{form-scaled}
use Rattle.fractions.proofs.TwoStates.{form-even_ended}
use Rattle.keys.specs.Keys.{spelled, written, key_of, count_of}
use Rattle.keys.specs.Size.{limit}

-- what bounds the words of quotients of the value x
abbrev room : Ratio → ℕ
room x = x.num * x.num * (x.num + x.den)

square_low : (x : ℕ) → 4 * x ≤ x * x + 4
square_low zero = omega arith
square_low (suc zero) = omega arith
square_low (suc (suc x)) = omega arith

-- one more quotient a, in front of n/d, with a word of w
room-more : (a n d w c : ℕ) → 1 ≤ a → d ≤ n → w ≤ 2 * (a * a) → c ≤ n * n * (n + d)
    → w * c ≤ (a * n + d) * (a * n + d) * (a * n + d + n)
room-more a n d w c h l e f = by_size (dec_lt 1 a)
  where
    by_size : Dec (1 < a) → w * c ≤ (a * n + d) * (a * n + d) * (a * n + d + n)
    by_size (yes k) =
        let low : a * n ≤ a * n + d = omega arith in
        let double : 2 * (n + d) ≤ a * n + d + n = omega (arith, mul-le-mul_right n k) in
        omega (arith, mul-le-mul e f, mul-le-mul (mul-le-mul low low) double)
    by_size (no k) = let one : a ≡ 1 = omega arith in rw one (omega (arith, mul-le-mul (rw one at e) f))

-- two quotients, a and b, with words of w and t: there is room for twice the words
room-two : (a b w t : ℕ) → 1 ≤ b → w ≤ 2 * (a * a) → t ≤ 2 * (b * b)
    → 2 * (w * t) ≤ (a * b + 1) * (a * b + 1) * (a * b + 1 + b)
room-two a b w t k e f =
    let x = a * b in
    omega (arith, mul-le-mul e f, mul-le-mul_left x (square_low x), mul-le-mul_left ((x + 1) * (x + 1)) k)

below-power : (n m : ℕ) → 2 ^ n < 2 ^ m → n < m
below-power n m h = by_size (dec_lt n m)
  where
    by_size : Dec (n < m) → n < m
    by_size (yes l) = l
    by_size (no l) = let k : m ≤ n = omega arith in absurd (omega (arith, pow_mono k))

module _ (F : Family) where
  spelled-length : (a : ℕ) (l : List ℕ)
      → 2 ^ length (spelled F (a ∷ l)) ≡ 2 ^ length (F.word a) * 2 ^ length (spelled F l)
  spelled-length a l = rw (length-append, length-map) (pow-add 2 (length (F.word a)) (length (spelled F l)))

  -- the words of two quotients or more, twice
  spelled-room : (z : Bool) (a b : ℕ) (l : List ℕ) → Quotients z (a ∷ b ∷ l)
      → 2 * 2 ^ length (spelled F (a ∷ b ∷ l)) ≤ room (value_of (a ∷ b ∷ l))
  spelled-room z a b [] (h, (k, q)) =
      rw (spelled-length a (b ∷ []), spelled-length b [])
      (omega (arith, room-two a b (2 ^ length (F.word a)) (2 ^ length (F.word b)) k (F.short a h) (F.short b k)))
  spelled-room z a b (c ∷ l) (h, q) =
      let m = b ∷ c ∷ l in
      let x = value_of m in
      let d : x.den ≤ x.num = spread_proper (not z) x (value_spread (not z) m q) in
      rw spelled-length
      (omega (
        arith,
        room-more a x.num x.den (2 ^ length (F.word a)) (2 * 2 ^ length (spelled F m))
            h d (F.short a h) (spelled-room (not z) b c l q),
      ))

  spelled-fits : (z : Bool) (l : List ℕ) → Quotients z l → (value_of l).num ≤ limit → (value_of l).den ≤ limit
      → length (spelled F l) < 96
  spelled-fits z [] q n d = omega arith
  spelled-fits z (a ∷ []) (h, q) n d =
      let low : a ≤ limit = omega arith in
      below-power (length (spelled F (a ∷ []))) 96
      (rw spelled-length (omega (arith, F.short a h, mul-le-mul low low)))
  spelled-fits z (a ∷ b ∷ l) q n d =
      below-power (length (spelled F (a ∷ b ∷ l))) 96
      (omega (arith, spelled-room z a b l q, mul-le-mul (mul-le-mul n n) (add-le-add n d)))

  -- a word of a number of at most 32 bits
  pub word-fits : (a : ℕ) → 1 ≤ a → a ≤ limit → length (F.word a) ≤ 64
  word-fits a h l =
      omega (arith, below-power (length (F.word a)) 65 (omega (arith, F.short a h, mul-le-mul l l)))

  -- a list of k quotients or more has at least the value's terms of k ones
  ones_least : (k : ℕ) (z : Bool) (l : List ℕ) → Quotients z l → k ≤ length l
      → ((value_of (replicate k 1)).num ≤ (value_of l).num) × ((value_of (replicate k 1)).den ≤ (value_of l).den)
  ones_least zero z l q h = (spread-positive z (value_of l) (value_spread z l q), omega arith)
  ones_least (suc k) z [] q h = absurd (omega arith)
  ones_least (suc k) z (a ∷ l) (i, q) h =
      let (n, d) = ones_least k (not z) l q (le_of_suc-le-suc h) in
      (omega (arith, mul-le-mul_right (value_of l).num i), n)

  few : (z : Bool) (l : List ℕ) → Quotients z l → (value_of l).num ≤ limit → length l ≤ 46
  few z l q n = by_count (dec_lt 46 (length l))
    where
      by_count : Dec (46 < length l) → length l ≤ 46
      by_count (yes h) = absurd (omega (arith, (ones_least 47 z l q h).0))
      by_count (no h) = omega arith

  list_size : (l : List ℕ) → EvenEnded l → (value_of l).num ≤ limit → (value_of l).den ≤ limit
      → (length (written F l) ≤ 96) × (count_of l ≤ 46)
  list_size [] e n d = absurd (false≢true e)
  list_size (zero ∷ l) q n d = (
    omega (arith, length-map (spelled F l) not, spelled-fits true l q (omega arith) (omega arith)),
    few true l q (omega arith),
  )
  list_size (suc a ∷ l) q n d =
      let whole : Quotients false (suc a ∷ l) = (omega arith, q) in
      (spelled-fits false (suc a ∷ l) whole n d, few false (suc a ∷ l) whole n)

  module _ (p q : ℕ) (positive : 1 ≤ q) (small : p ≤ limit) (low : q ≤ limit) where
    both : (length (written F (form_of p q)) ≤ 96) × (count_of (form_of p q) ≤ 46)
    both =
        let v = value_of (form_of p q) in
        let s = form-scaled p q positive in
        list_size (form_of p q) (form-even_ended p q positive)
        (omega (arith, s.above, mul-le-mul_right v.num s.positive))
        (omega (arith, s.below, mul-le-mul_right v.den s.positive))

    pub written_size : length (written F (form_of p q)) ≤ 96
    written_size = both.0

    pub count_size : count_of (form_of p q) ≤ 46
    count_size = both.1

    pub key_size : length (key_of F p q) ≤ 96
    unfolding key_of
    key_size = le_trans (closed-length (written F (form_of p q))) written_size
