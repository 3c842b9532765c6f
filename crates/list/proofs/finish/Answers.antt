-- A blank field lacks nothing; else the newline that is lacking is listed.
use Rattle.std.proofs.Common.{sym, ◌∙◌, [], arith}
use Rattle.list.proofs.Going.{going-start, going-end}
use Rattle.list.proofs.finish.Goals as goal

pub returns-then-is_blank : goal.returns-then-is_blank
returns-then-is_blank c =
    rw (sym c.is_blank.ensures ∙ c.if-is_blank.true) (going-end (going-start _ [] _) (omega arith))
