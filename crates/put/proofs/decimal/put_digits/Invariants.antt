-- With the digits still to come, the memory is the one asked for.
use Rattle.std.proofs.Common.{◌≡◌, length}
use Rattle.put.specs.Decimals.{last_digits, digits_to}
use Rattle.put.proofs.decimal.put_digits.Given as goal

abbrev pub invariant-loop-at : goal.invariant-loop-at
invariant-loop-at l = digits_to l.at l.left l.out ≡ last_digits (length l.fn.out) l.fn.n
