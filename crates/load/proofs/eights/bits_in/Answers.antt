-- Of every eight characters it is checked that their bits come out.
use Rattle.load.specs.Chunks.{eight-read}
use Rattle.load.specs.Groups.{plain-packed}
use Rattle.load.proofs.eights.bits_in.Goals as goal

pub returns-clause-value : goal.returns-clause-value
returns-clause-value c =
    let read = eight-read c.args.group.now c.told-group c.fits-group c.from_le_bytes-low.ensures in
    rw read at (plain-packed c.from_le_bytes-low.result)
