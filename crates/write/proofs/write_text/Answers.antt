-- Each way is what spelling and putting out gave, by `proofs/Replies.antt`.
use Rattle.std.proofs.lemmas.Result.{err_from_is_err_and}
use Rattle.outcomes.specs.Writing.{write_text}
use Rattle.write.proofs.Replies.{zero-told, text-told}
use Rattle.write.proofs.write_text.Goals as goal

pub returns-in_err-key : goal.returns-in_err-key
unfolding write_text
returns-in_err-key c =
    let p = err_from_is_err_and c.from_residual.result c.from_residual.ensures.1 in
    rw (p.1, p.2) (zero-told _ _ c.in_err-key.ensures _ _ _)

pub returns-in_err-characters : goal.returns-in_err-characters
returns-in_err-characters c =
    let p = err_from_is_err_and c.from_residual-in_err-characters.result c.from_residual-in_err-characters.ensures.1 in
    rw (p.1, p.2) (text-told c.ranges.p.fits c.ranges.q.fits c.in_ok-key.ensures _ c.in_err-characters.ensures)

pub returns : goal.returns
returns c = text-told c.ranges.p.fits c.ranges.q.fits c.in_ok-key.ensures _ c.in_ok-characters.ensures
