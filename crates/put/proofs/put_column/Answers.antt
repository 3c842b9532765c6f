-- Too short a buffer is left as it is. Else the words are put out one behind the other, and the characters counted.
use Rattle.std.specs.Prelude.{Result, Ok}
use Rattle.std.proofs.Common.{ap₂, ◌∙◌, List, ℕ, length, arith, rules}
use borrow.Author.Tests.{le-ltb}
use Rattle.refusals.specs.declared.Refusal.{Refusal}
use Rattle.put.specs.Putting.{column_put}
use Rattle.put.specs.Bytes.{words-front}
use Rattle.put.proofs.put_column.Goals as goal

pub returns : goal.returns
unfolding column_put
returns c =
    let out = c.args.out.now in
    rw (le-ltb (length out) 12 (omega arith))
    (ap₂ {C = Result ℕ Refusal × List ℕ} (λ n l. (Ok n, l)) c.characters_of.ensures
    (words-front c.args.b out (search rules) (search rules) (c.copy_from_slice.ensures.after ∙ c.to_be_bytes.ensures)
    (c.copy_from_slice-2.ensures.after ∙ c.to_be_bytes-2.ensures)))
