-- A turn reads a part and lists it; at the end all that was read is listed, and nothing is left to read.
use Rattle.std.proofs.Common.{arith}
use Rattle.lister.proofs.Flow.{reached_start, reached_more, ok_before}
use Rattle.lister.proofs.Output.list_all.Goals as goal

pub loop-init : goal.loop-init
loop-init g c = reached_start _ _ _ _

pub loop-preserved : goal.loop-preserved
loop-preserved g c =
    let read = ok_before _ _ c.map_err.ensures.cases c.map_err.ensures.variant c.in_ok-n.was in
    let (_, count) = rw read at c.read.ensures.bound in
    reached_more c.loop.invariant _ _ (rw read at c.read.ensures.bytes).0
    (omega (arith, count)) c.in_ok-list_part.ensures
