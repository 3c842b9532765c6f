-- Distance, 1983 words: a key of a value below 1, cut to n characters, has a value that is less than two thirds, taken
-- n-1 times as a factor, away (001, section V: a bit divides what is left two parts to one at most).
use Rattle.std.specs.Prelude.{◌≡◌, true, false, List, [], ◌∷◌, ℕ, zero, suc, ◌+◌, ◌*◌, ◌-◌, ◌^◌, ◌≤◌, ◌<◌, take}
use Rattle.std.proofs.Common.{sym, ◌∙◌, suc-le-suc, mul_comm, sub-one, arith}
use Rattle.bits.specs.Strings.{Bits, turn, Agree, trimmed}
use Rattle.bits.proofs.Order.{agree-turn}
use Rattle.families.proofs.Published.{words1983}
use Rattle.fractions.specs.Fractions.{Ratio, ◌over◌, onto, value_of}
use Rattle.fractions.proofs.Lists.{value_spread, spread_proper}
use Rattle.keys.specs.Keys.{read, value_of_key, cut_to, Canonical}
use Rattle.keys.proofs.Reading.{read-spells}
use Rattle.keys.proofs.Back.{not-canonical}
use Rattle.keys.proofs.Cutting.{cut-agree, cut_low}
use Rattle.keys.proofs.Near.{Denominators, apart}
use Rattle.keys.proofs.Close.{words, close}

-- the quotients of the key 0 s after its leading 0
abbrev quotients_after : Bits → List ℕ
quotients_after s = read words1983 true (turn s)

-- two keys that agree in n bits after a leading 0 have quotients that are spelled alike in n bits
read-agree : (n : ℕ) (s t : Bits) → Agree false n s t
    → Agree true n (words (quotients_after s)) (words (quotients_after t))
read-agree n s t e i h =
    sym ((read-spells words1983 true (turn s)).same i) ∙ agree-turn false n s t e i h
    ∙ (read-spells words1983 true (turn t)).same i

-- after the leading 0 the convergents are 0/1 and, before it, 1/0
start : Denominators
start = record { before = 0; last = 1; rising = omega arith; positive = omega arith }

-- what is near from there on, in the words of the demand
unscaled : (T P : ℕ) (x y : Ratio)
    → T * (1 * (1 + 0)) * apart x y < P * ((1 * x.num + 0 * x.den) * (1 * y.num + 0 * y.den))
    → ((onto 0 y).num * (onto 0 x).den - (onto 0 x).num * (onto 0 y).den) * T
    < P * ((onto 0 y).den * (onto 0 x).den)
unscaled T P x y h =
    let e : (onto 0 y).num * (onto 0 x).den - (onto 0 x).num * (onto 0 y).den ≡ apart x y = omega arith in
    rw e (omega (arith, mul_comm (apart x y) T))

-- p/q, of the string k, and a/b, of k cut to n, differ by less than two thirds taken n-1 times
abbrev CutNear : ℕ → Bits → Type 0
CutNear n k =
    let p/q = value_of_key words1983 k in
    let a/b = value_of_key words1983 (cut_to n k) in
    (p/q.num * a/b.den - a/b.num * p/q.den) * 3 ^ (n - 1) < 2 ^ (n - 1) * (p/q.den * a/b.den)

after-zero : (n : ℕ) (s : Bits) → CutNear (suc n) (false ∷ s)
unfolding start
after-zero n s =
    let c = trimmed (take n s) in
    let agree : Agree false n c s = λ i h. cut-agree (suc n) (false ∷ s) (suc i) (suc-le-suc h) in
    rw sub-one
    (unscaled (3 ^ n) (2 ^ n) (value_of (quotients_after c)) (value_of (quotients_after s))
    (close true (quotients_after c) (quotients_after s) (read-spells words1983 true (turn c)).quotients
    (read-spells words1983 true (turn s)).quotients n (read-agree n c s agree) start).0)

below_one : (n : ℕ) (k : Bits) → 1 ≤ n → Canonical k
    → (value_of_key words1983 k).num < (value_of_key words1983 k).den → CutNear n k
below_one zero k h c l = absurd (omega arith)
below_one (suc n) [] h c l = absurd (not-canonical c)
below_one (suc n) (false ∷ s) h c l = after-zero n s
below_one (suc n) (true ∷ s) h c l =
    absurd (omega (
      arith,
      spread_proper false (value_of (read words1983 false s))
          (value_spread false (read words1983 false s) (read-spells words1983 false s).quotients),
    ))

pub cut_distance : (k : Bits) (n p q a b : ℕ) → Canonical k → 1 ≤ n
    → value_of_key words1983 k ≡ p over q → p < q → value_of_key words1983 (cut_to n k) ≡ a over b
    → (a * q ≤ p * b) × ((p * b - a * q) * 3 ^ (n - 1) < 2 ^ (n - 1) * (q * b))
cut_distance k n p q a b c h v l w =
    (rw (v, w) at (cut_low words1983 n k h c), rw (v, w) at (below_one n k h c (rw v l)))
