-- The number stands behind the word; of a malformed line both are one text.
use Rattle.std.proofs.Common.{◌++◌, ◌∙◌, refl, drop, arith}
use Rattle.lines.specs.Lines.{printed}
use Rattle.numerals.specs.Numerals.{decimal_of, digits_from}
use Rattle.outcomes.specs.Listing.{refused_line}
use Rattle.list.specs.Puts.{Puts}
use Rattle.list.proofs.Puts.{puts-text, puts-length}
use Rattle.list.proofs.answer.refuse.Goals as goal

pub returns-in-Malformed : goal.returns-in-Malformed
unfolding refused_line printed decimal_of digits_from
returns-in-Malformed c =
    rw c.in-Malformed.is (record { count = refl; memory = rw c.copy_from_slice.ensures.after refl })

pub returns : goal.returns
unfolding refused_line printed
returns c =
    let word : Puts (printed "refused ") c.args.out.now 8 (c.copy_from_slice-2.new.self ++ drop 8 c.args.out.now) =
    record { count = refl; memory = rw c.copy_from_slice-2.ensures.after refl } in
    let same = puts-length word (omega arith) ∙ c.told-out in
    rw (← c.number.ensures) (puts-text word same _ _ _ c.put_number.ensures.puts)
