-- Each way is what seeking gave, by `proofs/Finding.antt`.
use Rattle.std.proofs.Common.{arith}
use Rattle.lookup.proofs.Finding.{list_refused, list-row, list_none}
use Rattle.lookup.proofs.list_from.Goals as goal

pub returns-in_err-seek : goal.returns-in_err-seek
returns-in_err-seek c = list_refused _ _ _ _ _ c.in_err-seek.ensures c.from_residual.ensures.1

pub returns-then-index-used : goal.returns-then-index-used
returns-then-index-used c =
    list-row _ _ _ _ _ c.in_ok-seek.ensures _ c.place-index.ensures (omega arith) _ c.row_at-row.ensures

pub returns : goal.returns
returns c = list_none _ _ _ _ _ c.in_ok-seek.ensures _ c.place-index.ensures (omega arith)
