-- Of a key the outcome is what loading and putting out gave, by `proofs/Replies.antt`; a short buffer is handed on.
use Rattle.std.proofs.lemmas.Result.{err_from_is_err_and}
use Rattle.pack.proofs.Replies.{column-told}
use Rattle.pack.proofs.text_to_column.Goals as goal

pub returns-in_err-put_column : goal.returns-in_err-put_column
returns-in_err-put_column c =
    let r = c.from_residual-in_err-put_column in
    let p = err_from_is_err_and r.result r.ensures.1 in
    rw (p.1, p.2)
    (column-told _ _ c.in_ok-judge.ensures _ c.load_text.ensures _ _ c.in_err-put_column.ensures)

pub returns : goal.returns
returns c = column-told _ _ c.in_ok-judge.ensures _ c.load_text.ensures _ _ c.in_ok-put_column.ensures
