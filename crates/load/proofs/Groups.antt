-- Eight characters read from the front of a text as one machine word, the first in its lowest byte.
use Rattle.std.specs.Prelude.{◌≡◌, refl, List, ◌∷◌, length, get_or, take, drop}
use Rattle.std.specs.Prelude.{ℕ, zero, suc, ◌+◌, ◌*◌, ◌/◌, ◌%◌, ◌≤◌, ◌<◌}
use Rattle.std.proofs.Common.{ap, arith, drop-cons}
use Rattle.bits.specs.Texts.{Bytes}
use Rattle.blocks.specs.Bytewise.{low_bytes}

-- n bytes from a place on as a number, lowest byte first
abbrev pub number_at : List ℕ → ℕ → ℕ → ℕ
number_at k i zero = 0
number_at k i (suc n) = get_or k i 0 + 256 * number_at k (suc i) n

number_bytes_lem : (k : List ℕ) (i n : ℕ) → Bytes k → i + n ≤ length k
    → low_bytes n (number_at k i n) ≡ take n (drop i k)
unfolding low_bytes
number_bytes_lem k i zero small h = refl
number_bytes_lem k i (suc n) small h =
    let c = get_or k i 0 in
    let m = number_at k (suc i) n in
    let first : (c + 256 * m) % 256 ≡ c = omega (arith, small i) in
    let rest : (c + 256 * m) / 256 ≡ m = omega (arith, small i) in
    let within : i < length k = omega arith in
    rw (first, rest, drop-cons k i 0)
    (ap {B = List ℕ} (λ r. c ∷ r) (number_bytes_lem k (suc i) n small (omega arith)))

pub eight-read : (k : List ℕ) {w : ℕ} → Bytes k → 8 ≤ length k → w ≡ number_at k 0 8 → low_bytes 8 w ≡ take 8 k
eight-read k small h e = rw e (number_bytes_lem k 0 8 small h)
