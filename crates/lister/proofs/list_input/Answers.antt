-- An empty buffer and an empty field are the start.
use Rattle.std.proofs.Common.{arith}
use Rattle.lister.proofs.Flow.{writes_listing}
use Rattle.lister.proofs.list_input.Goals as goal

pub returns : goal.returns
returns g c = writes_listing _ _ _ 65536 (omega arith) c.in_ok-list_all.ensures
