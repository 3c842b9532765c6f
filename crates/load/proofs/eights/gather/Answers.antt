-- The characters passed are at most 64, so there is room for eight bits more.
use Rattle.std.proofs.Common.{◌≡◌, ◌∙◌, ap, ◌+◌, ◌*◌, ◌/◌, ◌%◌, ◌^◌, length, get_or, [], arith}
use Rattle.load.specs.Chunks.{group_at, group-long, chunk-at}
use Rattle.load.specs.Gathering.{gathered-fits, gathered-group}
use Rattle.load.proofs.eights.gather.Goals as goal

pub loop-group-preserved : goal.loop-group-preserved
loop-group-preserved c =
    let k = c.args.k.now in
    let i = c.loop-group.group-index in
    let place : c.loop-group.passed ≡ 8 * i = c.loop-group.invariant.0 in
    let chunk : get_or c.as_chunks.result.0.now i [] ≡ group_at k i =
    rw c.as_chunks.ensures.front (chunk-at (length k / 8) k i [] (omega arith)) in
    let fits = gathered-fits k c.loop-group.passed c.loop-group.invariant.1 56 (omega arith) (omega arith) in
    let room : c.loop-group.bits * 256 % 2 ^ 64 ≡ c.loop-group.bits * 256 = omega arith in (
      omega arith,
      ap (λ v. v + c.bits_in.result) room
          ∙ gathered-group k c.loop-group.passed c.loop-group.invariant.1 8 (group-long k i (omega arith)) (rw place)
          (rw chunk at (c.bits_in.ensures.value (c.is_plain.ensures c.if-not-is_plain.false))),
    )
