-- The characters that are counted are the same in both texts, behind those that groups have passed.
use Rattle.std.proofs.Common.{◌≡◌, length, take, drop, rules, arith}
use Rattle.std.specs.List.{prefix_len, zip}
use borrow.Author.Tests.{tests}
use Rattle.std.proofs.lemmas.Iterator.{YieldsList-from_slice, YieldsList-from_zip}
use Rattle.std.proofs.lemmas.Iterator.Search.{YieldsList-from_take_while}
use Rattle.std.proofs.lemmas.Iterator.Consumers.{count_from_yields_List}
use Rattle.std.proofs.lemmas.List.Folds.{length-prefix_len}
use Rattle.bits.proofs.Memory.{lent_part}
use Rattle.load.specs.Fronts.{same_pair, shared-pairs}
use Rattle.load.proofs.same_front.Goals as goal

pub returns : goal.returns
returns c =
    let at = c.skip_same-same.result in
    let s = drop at c.args.j.now in
    let t = drop at c.args.k.now in
    let counted : c.count.result ≡ length (take (prefix_len same_pair (zip s t)) (zip s t)) =
    count_from_yields_List c.take_while.result c.count.result c.count.ensures.ran
    (YieldsList-from_take_while _ same_pair
    (YieldsList-from_zip (YieldsList-from_slice s (cc (lent_part c.args.j.now at)))
    (YieldsList-from_slice t (cc (lent_part c.args.k.now at))))
    c.take_while.ensures.closure c.take_while.ensures.done (λ x b q k. search (rules, tests))) in
    rw (counted, length-prefix_len, shared-pairs) (omega (arith, c.skip_same-same.ensures.shared))
