-- A column of another length is refused. Else the block is made of its first eight bytes and its last four.
use Rattle.std.proofs.Common.{◌≡◌, ◌∙◌, take, drop, arith}
use Rattle.std.proofs.lemmas.Result.{MatchResult-at_ok}
use Rattle.bits.proofs.Memory.{lent_part}
use Rattle.load.specs.Bytes.{column_wrong, column-loaded}
use Rattle.load.proofs.load_column.Goals as goal

pub returns-then-c-ne12 : goal.returns-then-c-ne12
returns-then-c-ne12 c = column_wrong c.args.c.now λ e. omega (arith, c.if-c-ne12.true)

pub returns : goal.returns
returns c =
    let k = c.args.c.now in
    let high : c.unwrap.result ≡ take 8 k = (MatchResult-at_ok _ _ _ c.unwrap.ensures c.try_into.ensures.1).same in
    let low : c.unwrap-2.result ≡ drop 8 k =
    (MatchResult-at_ok _ _ _ c.unwrap-2.ensures c.try_into-2.ensures.1).same ∙ lent_part k 8 in
    column-loaded k c.if-c-ne12.false (λ i. omega (arith, c.type_inv.c i)) (rw high at c.from_be_bytes.ensures)
    (rw low at c.from_be_bytes-2.ensures)
