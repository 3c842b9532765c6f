-- Of a column that is loaded the outcome is what putting out gave, by `proofs/Replies.antt`.
use Rattle.pack.proofs.Replies.{text-told}
use Rattle.pack.proofs.column_to_text.Goals as goal

pub returns : goal.returns
returns c = text-told _ _ _ c.in_ok-block.ensures _ _ c.put_text.ensures
