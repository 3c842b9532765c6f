-- The line that an entry or a refusal calls for.
use Rattle.std.specs.Prelude.{List, ℕ, Result, Ok, Err}
use Rattle.bits.specs.Strings.{closed}
use Rattle.blocks.specs.Blocks.{bits_of_block}
use Rattle.fractions.specs.Fractions.{◌over◌}
use Rattle.outcomes.specs.Listing.{entry_of, refused_line}
use Rattle.refusals.specs.declared.Refusal.{Refusal}
use Rattle.refusals.specs.Numbers.{number_of}
use Rattle.list.specs.declared.answer.Entry.{Entry}

-- the line of an entry
abbrev pub entry_line : Entry → List ℕ
entry_line e = entry_of (e.ratio.numerator over e.ratio.denominator) (closed (bits_of_block e.key)) e.quotients

-- the line of an entry or a refusal
abbrev pub reply_line : Result Entry Refusal → List ℕ
reply_line (Ok e) = entry_line e
reply_line (Err e) = refused_line (number_of e)
