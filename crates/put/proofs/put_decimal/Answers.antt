-- As many of the last digits are put out as the number has, which are all.
use Rattle.std.proofs.Common.{sym, length, arith, length-take-le}
use borrow.Author.Tests.{le-ltb}
use Rattle.numerals.specs.Numerals.{decimal_of}
use Rattle.numerals.proofs.Laws.{decimal_size}
use Rattle.put.specs.Putting.{decimal_put}
use Rattle.put.specs.Decimals.{last-all}
use Rattle.put.proofs.put_decimal.Goals as goal

pub slice_bounds-put_digits-end : goal.slice_bounds-put_digits-end
slice_bounds-put_digits-end c = omega (arith, decimal_size c.args.n (omega arith))

pub slice_bounds-put_digits-end-2 : goal.slice_bounds-put_digits-end-2
slice_bounds-put_digits-end-2 c =
    sym (length-take-le c.places-count.result c.args.out.now (omega (arith, decimal_size c.args.n (omega arith))))

pub returns : goal.returns
unfolding decimal_put
returns c =
    let n = c.args.n in
    let out = c.args.out.now in
    let size = length-take-le (length (decimal_of n)) out (omega (arith, decimal_size n (omega arith))) in
    rw (le-ltb (length out) 10 (omega arith), c.put_digits.ensures, c.places-count.ensures, size, last-all)
