-- The logarithm puts the number, or 1 where it is 0, between two powers of ten.
use Rattle.std.proofs.Common.{◌≡◌, ◌≤◌, ◌-◌, ◌^◌, ◌<◌, suc, arith, pow-suc}
use Rattle.std.proofs.Math.Nat.{one-le-pow}
use Rattle.numerals.proofs.Laws.{decimal_length}
use Rattle.put.proofs.decimal.places.Goals as goal

pub returns : goal.returns
returns c =
    let k = c.ilog10.result in
    let n = c.args.n in
    let below : n < 10 ^ suc k = rw pow-suc (omega arith) in
    let from : 1 ≤ k → 10 ^ k ≤ n =
    λ some.
    let before : suc (k - 1) ≡ k = omega arith in
    omega (arith, one-le-pow (k - 1) 10 (omega arith), rw before at (pow-suc 10 (k - 1))) in
    omega (arith, decimal_length k n from below)
