-- Each way is what spelling and judging gave, by `specs/Replies.antt`.
use Rattle.std.proofs.Common.{rules}
use Rattle.spell.specs.Callers.{key-spells, divisor_positive}
use Rattle.seek.specs.Replies.{sought_refused, sought-zero, sought-end, sought-other, sought-here}
use Rattle.seek.proofs.seek.Goals as goal

pub returns-in_err-index : goal.returns-in_err-index
returns-in_err-index c = search (rules, sought_refused _ c.args.p c.args.q _ _ c.in_err-index.ensures)

pub returns-in_err-spelled : goal.returns-in_err-spelled
returns-in_err-spelled c =
    search (rules, sought-zero _ _ _ _ _ c.in_ok-index.ensures c.in_err-spelled.ensures)

pub nonzero_div-fraction : goal.nonzero_div-fraction
nonzero_div-fraction c = divisor_positive (key-spells _ _ c.in_ok-spelled.ensures)

pub nonzero_div-fraction-2 : goal.nonzero_div-fraction-2
nonzero_div-fraction-2 c = divisor_positive (key-spells _ _ c.in_ok-spelled.ensures)

pub returns-then-has_terms : goal.returns-then-has_terms
returns-then-has_terms c =
    sought-here _ _ _ _ _ c.in_ok-index.ensures (λ i. (c.type_inv.m i).fits) (search rules) (search rules)
    c.in_ok-spelled.ensures (search rules) c.if-index-used.true c.row_at-row.ensures c.if-has_terms.ensures

pub returns-else-has_terms : goal.returns-else-has_terms
returns-else-has_terms c =
    sought-other _ _ _ _ _ c.in_ok-index.ensures (λ i. (c.type_inv.m i).fits) (search rules) (search rules)
    c.in_ok-spelled.ensures (search rules) c.if-index-used.true c.row_at-row.ensures c.if-has_terms.ensures

pub returns-else-index-used : goal.returns-else-index-used
returns-else-index-used c =
    sought-end _ _ _ _ _ c.in_ok-index.ensures (λ i. (c.type_inv.m i).fits) (search rules) (search rules)
    c.in_ok-spelled.ensures (search rules) c.if-index-used.false
