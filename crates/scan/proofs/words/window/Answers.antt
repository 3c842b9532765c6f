-- The window is made by the word of the block in which it begins. The sum fits, since it is the window's number.
use Rattle.std.specs.Prelude.{false, drop}
use Rattle.std.proofs.Common.{arith}
use Rattle.bits.proofs.Sums.{first-lt}
use Rattle.blocks.specs.Blocks.{bits_of_block}
use Rattle.scan.specs.Windows.{window_high, window_low, window_none}
use Rattle.scan.proofs.words.window.Goals as goal

pub returns-then-used-lt64 : goal.returns-then-used-lt64
returns-then-used-lt64 c = window_high c.args.b (omega arith) (omega arith) c.args.used (omega arith)

pub overflow_add-result : goal.overflow_add-result
overflow_add-result c =
    record {
      fits =
          omega (
            arith,
            window_high c.args.b (omega arith) (omega arith) c.args.used (omega arith),
            first-lt false 64 (drop c.args.used (bits_of_block c.args.b)),
          );
    }

pub returns-then-used-lt96 : goal.returns-then-used-lt96
returns-then-used-lt96 c = window_low c.args.b (omega arith) (omega arith) c.args.used (omega arith) (omega arith)

pub returns : goal.returns
returns c = window_none c.args.b (omega arith) (omega arith) c.args.used (omega arith)
