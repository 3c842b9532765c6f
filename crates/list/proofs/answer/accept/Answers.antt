-- Each text stands behind those before it, and there is room: a number and its mark take 11 bytes at most, a key 96.
use Rattle.std.proofs.Common.{◌∙◌, arith}
use Rattle.outcomes.specs.Listing.{entry_of}
use Rattle.list.proofs.Puts.{puts-length, puts-text, puts_mark}
use Rattle.list.proofs.answer.accept.Goals as goal

pub returns : goal.returns
unfolding entry_of
returns c =
    let terms = puts-text c.put_number-at.ensures.puts (omega arith) _ _ _ c.put_number-at-2.ensures.puts in
    let e = puts-length terms (omega arith) ∙ c.told-out in
    let key = puts-text terms e _ _ _ c.put_key-at.ensures.puts in
    let f = puts-length key (omega arith) ∙ c.told-out in
    let space = puts_mark key 32 (omega (arith, f)) in
    let g = puts-length space (omega arith) ∙ c.told-out in
    puts-text space g _ _ _ c.put_number.ensures.puts
