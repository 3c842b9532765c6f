-- The groups are passed, and what they leave is among the last eight characters.
use Rattle.std.proofs.Common.{◌-◌, ◌*◌, [], ◌/◌, length, rules, arith}
use Rattle.std.specs.Simd.{first_chunks}
use Rattle.std.proofs.lemmas.Iterator.{YieldsList-from_slice, cases_from_all}
use Rattle.load.specs.Chunks.{chunk-at}
use Rattle.load.specs.Passing.{Plain, passed-groups, passed-last}
use Rattle.load.proofs.eights.are_plain.Goals as goal

pub returns-then-is_plain : goal.returns-then-is_plain
returns-then-is_plain c plain =
    let k = c.args.k.now in
    let s = first_chunks 8 (length k / 8) k in
    let cases =
    cases_from_all _ _ _ Plain (λ t. Unit {0}) c.all.ensures.ran (YieldsList-from_slice s (cc)) (λ x q k. search rules)
    (λ x q k. tt) in
    let each = rw plain at cases in
    let size = rw c.as_chunks.ensures.front at c.as_chunks.ensures.front_len in
    let groups =
    passed-groups k (length k / 8) (omega arith) λ i h.
    rw (chunk-at (length k / 8) k i [] h) at (each i [] (omega arith) (omega arith)) in
    passed-last k (length k - 8) (8 * (length k / 8)) c.in-Some.ensures.cases.1.same (omega arith) (omega arith)
    (c.is_plain.ensures c.if-is_plain.true) groups
