-- What spelling told is the answer that is put out.
use Rattle.std.proofs.Common.{◌∙◌, ap, rules}
use Rattle.spell.specs.Callers.{key-spells, divisor_positive}
use Rattle.list.specs.Ratios.{answer_typed}
use Rattle.list.proofs.Replies.{reply_err, zero-told, key-told}
use Rattle.list.proofs.answer.entry_for.Goals as goal

pub returns-in_err-spelled : goal.returns-in_err-spelled
returns-in_err-spelled c =
    reply_err _ _ c.from_residual-in_err-spelled.ensures
    (zero-told _ _ c.in_err-spelled.ensures ∙ ap answer_typed c.in_ok-typed.ensures)

pub nonzero_div-numerator : goal.nonzero_div-numerator
nonzero_div-numerator c = divisor_positive (key-spells _ _ c.in_ok-spelled.ensures)

pub nonzero_div-denominator : goal.nonzero_div-denominator
nonzero_div-denominator c = divisor_positive (key-spells _ _ c.in_ok-spelled.ensures)

pub returns : goal.returns
returns c =
    key-told _ _ (search rules) (search rules) c.in_ok-spelled.ensures ∙ ap answer_typed c.in_ok-typed.ensures
