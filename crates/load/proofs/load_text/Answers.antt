-- `gathered` gives the bits of up to 64 characters. Of a longer text the high word has the first 64, and the low word
-- up to 32 of those behind.
use Rattle.std.proofs.Common.{◌≡◌, sym, length, arith, length-take, length-take-le}
use Rattle.std.specs.Prelude.{min}
use Rattle.load.specs.Gathering.{short_loaded, cut-loaded}
use Rattle.load.proofs.load_text.Goals as goal

pub returns-then-k-le64 : goal.returns-then-k-le64
returns-then-k-le64 c = short_loaded c.args.k.now c.if-k-le64.true c.gathered.ensures

pub slice_bounds-gathered-end-2 : goal.slice_bounds-gathered-end-2
slice_bounds-gathered-end-2 c = sym (length-take-le 64 c.args.k.now (omega arith))

pub gathered-requires-2 : goal.gathered-requires-2
gathered-requires-2 c = rw length-take (omega arith)

pub returns : goal.returns
returns c =
    let k = c.args.k.now in
    let end : c.min.result ≡ min (length k) 96 = omega (arith, c.min.ensures) in
    cut-loaded k c.gathered-2.ensures (rw end at c.gathered-rest.ensures)
