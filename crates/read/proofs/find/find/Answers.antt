-- The number that was found settles the answer, by its size.
use Rattle.std.proofs.Common.{arith}
use Rattle.blocks.specs.Blocks.{bits_of_block}
use Rattle.read.proofs.Range.{Settles, settles-word, settles_turned, answer_over, answer_ratio}
use Rattle.read.proofs.find.find.Goals as goal
use Rattle.read.proofs.find.find.Goals.{Joined-high-lt9223372036854775808, then-high-lt9223372036854775808, else-high-lt9223372036854775808}

settled : (c : Joined-high-lt9223372036854775808) → Settles (bits_of_block c.args.b) c.if-high-lt9223372036854775808.r
settled c =
    let b = c.args.b in
    elim c.if-high-lt9223372036854775808.branch [
      | then-high-lt9223372036854775808 w ↦
          rw w.r-is
          (settles_turned b w.find_turned-r.result w.if-high-lt9223372036854775808.true w.find_turned-r.ensures)
      | else-high-lt9223372036854775808 w ↦
          rw w.r-is
          (settles-word b w.find_word-r.result w.if-high-lt9223372036854775808.false (omega arith) w.find_word-r.ensures)
    ]

pub returns-then-r-lt4294967296 : goal.returns-then-r-lt4294967296
returns-then-r-lt4294967296 c =
    answer_over _ _ (settled (goal.at.returns-then-r-lt4294967296 c).Joined-high-lt9223372036854775808)
    c.if-r-lt4294967296.true

pub returns : goal.returns
returns c =
    answer_ratio _ _ (settled (goal.at.returns c).Joined-high-lt9223372036854775808) c.if-r-lt4294967296.false
