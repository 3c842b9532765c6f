-- The row is put where memory has it.
use Rattle.std.proofs.Common.{sym, ◌∙◌, ◌≡◌, ◌+◌, ◌*◌, ◌-◌, arith}
use borrow.Author.Tests.{lt-ltb}
use Rattle.blocks.proofs.Bytewise.{length_low}
use Rattle.tables.specs.Moves.{put_at}
use Rattle.rows.specs.Putting.{four_bytes_lem, row-put}
use Rattle.rows.proofs.put.Goals as goal

pub returns : goal.returns
unfolding put_at
returns c =
    let at = 12 * c.args.i in
    let size : at + 4 - at ≡ 4 = omega arith in
    let size_2 : at + 8 - (at + 4) ≡ 4 = omega arith in
    let size_3 : at + 12 - (at + 8) ≡ 4 = omega arith in
    rw (
      lt-ltb _ _ c.if-m-i.false,
      size,
      size_2,
      size_3,
      c.copy_from_slice.ensures.after ∙ c.to_le_bytes.ensures ∙ sym (four_bytes_lem c.args.row.numerator),
      c.copy_from_slice-2.ensures.after ∙ c.to_le_bytes-2.ensures ∙ sym (four_bytes_lem c.args.row.denominator),
      c.copy_from_slice-3.ensures.after ∙ c.to_le_bytes-3.ensures ∙ sym (four_bytes_lem c.args.row.quantity),
    )
    (simp length_low at row-put c.args.m.now at c.args.row (omega arith))
