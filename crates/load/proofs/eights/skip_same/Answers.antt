-- The groups that are counted are the same in both texts.
use Rattle.std.proofs.Common.{◌≡◌, ◌/◌, length, take, rules, arith}
use Rattle.std.specs.List.{prefix_len, zip}
use Rattle.std.specs.Simd.{first_chunks}
use borrow.Author.Tests.{tests}
use Rattle.std.proofs.lemmas.Iterator.{YieldsList-from_slice, YieldsList-from_zip}
use Rattle.std.proofs.lemmas.Iterator.Search.{YieldsList-from_take_while}
use Rattle.std.proofs.lemmas.Iterator.Consumers.{count_from_yields_List}
use Rattle.std.proofs.lemmas.List.Folds.{length-prefix_len}
use Rattle.load.specs.Fronts.{same_number, shared-groups}
use Rattle.load.proofs.eights.skip_same.Goals as goal

pub returns-clause-shared : goal.returns-clause-shared
returns-clause-shared c =
    let j = c.args.j.now in
    let k = c.args.k.now in
    let s = first_chunks 8 (length j / 8) j in
    let t = first_chunks 8 (length k / 8) k in
    let counted : c.count.result ≡ length (take (prefix_len same_number (zip s t)) (zip s t)) =
    count_from_yields_List c.take_while-same.result c.count.result c.count.ensures.ran
    (YieldsList-from_take_while _ same_number
    (YieldsList-from_zip (YieldsList-from_slice s (cc)) (YieldsList-from_slice t (cc)))
    c.take_while-same.ensures.closure c.take_while-same.ensures.done (λ x b q k. search (rules, tests))) in
    rw (counted, length-prefix_len)
    (shared-groups (length j / 8) (length k / 8) j k (omega arith) (omega arith) (λ i. omega (arith, c.type_inv.j i))
    (λ i. omega (arith, c.type_inv.k i)))
