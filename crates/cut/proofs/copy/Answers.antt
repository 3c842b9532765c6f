-- A group puts eight characters more behind those that are copied, or the last ones at the end; so does the second of
-- two groups of four.
use Rattle.std.proofs.Common.{◌≡◌, ◌+◌, ◌*◌, arith}
use Rattle.cut.proofs.Copying.{copied-more, copied-last}
use Rattle.cut.proofs.copy.Goals as goal

pub returns-then-n-lt8 : goal.returns-then-n-lt8
returns-then-n-lt8 c =
    let x = c.args in
    copied-last x.k.now x.out.now 4 4 x.n (omega arith) (omega arith) (omega arith) (omega arith)
    (omega arith) (omega arith, c.copy_group.ensures) c.copy_group-then-n-lt8.ensures

pub loop-group-preserved : goal.loop-group-preserved
loop-group-preserved c =
    let x = c.args in
    let at = 8 * c.loop-group.group in
    let next : at + 8 ≡ 8 * (c.loop-group.group + 1) = omega arith in
    rw next at
    (copied-more x.k.now x.out.now at at 8 (omega arith) (omega arith) (omega arith) c.loop-group.invariant
    (omega arith) c.copy_group-in-loop-group.ensures)

pub returns : goal.returns
returns c =
    let x = c.args in
    copied-last x.k.now x.out.now (8 * c.loop-group.group) 8 x.n (omega arith) (omega arith) (omega arith)
    (omega arith) (omega arith) c.loop-group.invariant c.copy_group-2.ensures
