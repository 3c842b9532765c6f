-- Three numbers, each of four bytes behind those before it.
use Rattle.judge.specs.Reading.{row-made}
use Rattle.judge.proofs.row.row_from.Goals as goal

pub returns : goal.returns
returns c =
    row-made c.args.m.now c.args.at
    c.from_le_bytes.ensures (rw c.unwrap.ensures at c.try_into.ensures.1)
    c.from_le_bytes-2.ensures (rw c.unwrap-2.ensures at c.try_into-2.ensures.1)
    c.from_le_bytes-3.ensures (rw c.unwrap-3.ensures at c.try_into-3.ensures.1)
