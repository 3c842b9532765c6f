-- The mask leaves the lowest bit of each byte.
use Rattle.load.specs.Chunks.{eight-read}
use Rattle.load.specs.Groups.{plain_masked}
use Rattle.load.proofs.eights.is_plain.Goals as goal

pub returns : goal.returns
returns c =
    let read = eight-read c.args.group.now c.told-group c.fits-group c.from_le_bytes-w.ensures in
    rw read at (plain_masked c.from_le_bytes-w.result)
