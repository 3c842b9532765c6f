-- Putting out a number's digits one by one, from the last on.
use Rattle.std.specs.Prelude.{◌≡◌, refl, List, ℕ, zero, suc, ◌+◌, ◌-◌, ◌/◌, ◌%◌, ◌≤◌, length, take, set}
use Rattle.std.proofs.Common.{add-one, arith, length-append, length-take-le, drop_at}
use Rattle.std.proofs.Math.Seq.{append_snoc}
use Rattle.std.proofs.lemmas.List.{set_split}
use Rattle.bits.specs.Texts.{in_front}
use Rattle.put.specs.Decimals.{last_digits, digits_to}

last-length : (k n : ℕ) → length (last_digits k n) ≡ k
last-length zero n = refl
last-length (suc k) n = rw (length-append, last-length k (n / 10), add-one)

pub digits-front : (count n : ℕ) (m : List ℕ) → digits_to count n m ≡ in_front (last_digits count n) m
digits-front count n m = rw last-length

-- the last of them is put out, and the others are still to come
pub digits-step : (at left : ℕ) (m : List ℕ) → 1 ≤ at → at ≤ length m
    → digits_to (at - 1) (left / 10) (set m (at - 1) (48 + left % 10)) ≡ digits_to at left m
digits-step zero left m p h = absurd (omega arith)
digits-step (suc at) left m p h =
    let before : suc at - 1 ≡ at = omega arith in
    let front : length (take at m) ≡ at = length-take-le at m (omega arith) in
    rw (before, set_split, drop_at, append_snoc)
