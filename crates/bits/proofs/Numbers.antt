-- A string as a binary number: reading on, its size, and what turning does to it.
use Rattle.std.specs.Prelude.{◌≡◌, refl, true, false, [], ◌∷◌, ◌++◌, ℕ, zero, suc, ◌+◌, ◌*◌, ◌^◌, ◌<◌, length, replicate}
use Rattle.std.proofs.Common.{ap, pow-suc, arith}
use Rattle.std.proofs.lemmas.List.{length-map, length-replicate}
use Rattle.bits.specs.Strings.{Bits, turn}
use Rattle.bits.specs.Binary.{digit_of, number_from, number_of}

-- to read s on from v is to shift v by the length of s and to add s
pub number_from_lem : (v : ℕ) (s : Bits) → number_from v s ≡ v * 2 ^ length s + number_of s
number_from_lem v [] = omega arith
number_from_lem v (b ∷ s) =
    omega (
      arith,
      number_from_lem (2 * v + digit_of b) s,
      number_from_lem (2 * 0 + digit_of b) s,
      ap (λ (x : ℕ). v * x) (pow-suc 2 (length s)),
    )

pub number-append : (v : ℕ) (s t : Bits) → number_from v (s ++ t) ≡ number_from (number_from v s) t
number-append v [] t = refl
number-append v (b ∷ s) t = number-append (2 * v + digit_of b) s t

-- a string and the turned one add up to all ones
pub number-turn : (s : Bits) → number_of s + number_of (turn s) + 1 ≡ 2 ^ length s
number-turn [] = refl
number-turn (true ∷ s) = omega (arith, number-turn s, number_from_lem 1 s, pow-suc 2 (length s))
number-turn (false ∷ s) =
    omega (arith, number-turn s, rw length-map at (number_from_lem 1 (turn s)), pow-suc 2 (length s))

pub number-lt : (s : Bits) → number_of s < 2 ^ length s
number-lt s = omega (arith, number-turn s)

pub number-ones : (n : ℕ) → number_of (replicate n true) + 1 ≡ 2 ^ n
number-ones zero = refl
number-ones (suc n) =
    omega (arith, number-ones n, rw length-replicate at (number_from_lem 1 (replicate n true)), pow-suc 2 n)
