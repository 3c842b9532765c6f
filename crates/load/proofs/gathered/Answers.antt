-- The characters passed are at most 64, so there is room for each bit.
use Rattle.std.proofs.Common.{◌≡◌, ◌+◌, ◌-◌, length, get_or, arith}
use Rattle.std.specs.Prelude.{refl, eqb}
use Rattle.load.specs.Gathering.{behind, behind-size, behind-at, byte-small, gathered-fits, gathered-more, gathered-all}
use Rattle.load.proofs.gathered.Goals as goal

pub overflow_mul-bits : goal.overflow_mul-bits
overflow_mul-bits c =
    let k = c.args.k.now in
    let p = c.gather-front.result.passed in
    let size = behind-size k p in
    let at = length k - length (behind k p) + c.loop-c.c-index in
    omega (arith, gathered-fits k at c.loop-c.invariant 63 (omega arith) (omega arith))

pub overflow_add-bits : goal.overflow_add-bits
overflow_add-bits c =
    let k = c.args.k.now in
    let p = c.gather-front.result.passed in
    let size = behind-size k p in
    let at = length k - length (behind k p) + c.loop-c.c-index in
    omega (
      arith,
      gathered-fits k at c.loop-c.invariant 63 (omega arith) (omega arith),
      byte-small (eqb (get_or (behind k p) c.loop-c.c-index 0) 49),
    )

pub loop-c-preserved : goal.loop-c-preserved
loop-c-preserved c =
    let k = c.args.k.now in
    let p = c.gather-front.result.passed in
    let i = c.loop-c.c-index in
    let size = behind-size k p in
    let here : length k - length (behind k p) + i ≡ p + i = omega arith in
    let next : length k - length (behind k p) + (i + 1) ≡ p + i + 1 = omega arith in
    rw (next, behind-at k p i) (gathered-more k (p + i) (rw here at c.loop-c.invariant) 0 (omega arith))

pub returns : goal.returns
returns c =
    let k = c.args.k.now in
    let p = c.gather-front.result.passed in
    let size = behind-size k p in
    let whole : length k - length (behind k p) + c.loop-c.c-index ≡ length k = omega arith in
    gathered-all k (length k) (rw whole at c.loop-c.invariant) refl (omega arith)
