-- The buffer is lent from what waits on, once there is room, and then all is written.
use Rattle.lister.proofs.Flow.{passes-written, on_ok}
use Rattle.lister.proofs.Lent.{lists_last}
use Rattle.lister.proofs.Output.end.Goals as goal

pub returns : goal.returns
returns g c =
    let room = c.in_ok-make_room.ensures in
    let now = c.make_room.new.self in
    let last = lists_last now.held now.buffer now.size room.room c.finish.ensures in
    on_ok c.flush.result c.flush.ensures.written (λ w. rw (← room.same) (passes-written _ _ room.passes (rw last at w)))
