-- The buffer is lent from what waits on, once there is room.
use Rattle.std.proofs.Common.{arith}
use Rattle.lister.proofs.Lent.{lists_some}
use Rattle.lister.proofs.Output.list_some.Goals as goal

pub returns : goal.returns
returns g c =
    let room = c.in_ok-make_room.ensures in
    let now = c.make_room.new.self in
    lists_some now.held now.buffer now.size (omega arith) room.room room.same room.passes c.list-listed.ensures
