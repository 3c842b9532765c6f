-- The word of a is appended by its number, which its highest digit gives, in its bits.
use Rattle.std.proofs.Common.{refl, arith}
use Rattle.spell.proofs.Words.{size, word_fits, word_made}
use Rattle.spell.proofs.line.Line.append_word.Goals as goal

pub append-requires-clause-within : goal.append-requires-clause-within
append-requires-clause-within c =
    let k = c.highest-k.ensures in word_fits k.power_le k.next_power_gt k.bound

pub append-requires-clause-room : goal.append-requires-clause-room
append-requires-clause-room c =
    let k = c.highest-k.ensures in omega (arith, size k.power_le k.next_power_gt k.bound)

pub returns : goal.returns
returns c =
    let k = c.highest-k.ensures in rw (c.append.ensures, word_made k.power_le k.next_power_gt k.bound) refl
