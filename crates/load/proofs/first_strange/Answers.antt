-- Where groups showed that no character is strange, that is all. Else one that is neither 0 nor 1 is the first.
use Rattle.std.proofs.Common.{◌∙◌, length, rules, arith}
use Rattle.std.proofs.lemmas.Iterator.{IsFirst-from_position, YieldsList-from_slice}
use Rattle.load.specs.Passing.{Strange, Digit, passed-all, strange_found}
use Rattle.load.proofs.first_strange.Goals as goal
use borrow.Author.Tests.{tests}

pub returns-then-are_plain : goal.returns-then-are_plain
returns-then-are_plain c =
    let k = c.args.k.now in passed-all k (length k) (omega arith) (c.are_plain.ensures c.if-are_plain.true)

pub returns : goal.returns
returns c =
    c.unwrap_or.ensures ∙ strange_found _ _
    (IsFirst-from_position _ _ _ Strange Digit c.position.ensures.ran (YieldsList-from_slice c.args.k.now (cc))
    (λ x q k. search (rules, tests)) (λ x q k. search (rules, tests)))
