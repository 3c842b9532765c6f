-- The characters come from the high word alone, or from both.
use Rattle.std.proofs.Common.{◌≡◌, ◌++◌, ◌∙◌, sym, length, drop, arith, length-take, length-take-le, length-drop, length-append}
use Rattle.put.specs.KeyText.{key-length, high_text, both_text}
use Rattle.put.proofs.put_text.Goals as goal

pub returns-then-n-le64 : goal.returns-then-n-le64
returns-then-n-le64 c =
    high_text c.args.b c.args.out.now (omega arith) c.characters_of-n.ensures c.if-n-le64.true c.put_bits.ensures

pub slice_bounds-put_bits-end-else-n-le64-2 : goal.slice_bounds-put_bits-end-else-n-le64-2
slice_bounds-put_bits-end-else-n-le64-2 c = sym (length-take-le 64 c.args.out.now (omega arith))

pub put_bits-requires-else-n-le64 : goal.put_bits-requires-else-n-le64
put_bits-requires-else-n-le64 c = omega (arith, length-take-le 64 c.args.out.now (omega arith))

pub slice_bounds-put_bits-end-else-n-le64-3 : goal.slice_bounds-put_bits-end-else-n-le64-3
slice_bounds-put_bits-end-else-n-le64-3 c =
    let out = c.args.out.now in
    let first = c.put_bits-else-n-le64.new.out in
    let size : length first ≡ 64 = c.put_bits-else-n-le64.auto.out ∙ length-take-le 64 out (omega arith) in
    let whole : length (first ++ drop 64 out) ≡ length out = rw (length-append, length-drop) (omega arith) in
    omega (arith, key-length c.args.b)

pub put_bits-requires-else-n-le64-2 : goal.put_bits-requires-else-n-le64-2
put_bits-requires-else-n-le64-2 c = rw length-take (omega (arith, key-length c.args.b))

pub returns-else-n-le64 : goal.returns-else-n-le64
returns-else-n-le64 c =
    both_text c.args.b c.args.out.now (omega arith) c.characters_of-n.ensures (omega arith) (omega arith)
    c.put_bits-else-n-le64.ensures c.put_bits-else-n-le64-2.ensures
