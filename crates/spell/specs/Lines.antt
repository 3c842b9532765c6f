-- A line: a string of at most 96 bits as a number, and the count of its bits.
use Rattle.std.specs.Prelude.{◌≡◌, ◌^◌, ◌≤◌, ◌<◌, length}
use Rattle.bits.specs.Strings.{Bits}
use Rattle.bits.specs.Binary.{digits_in, number_of}
use Rattle.bits.proofs.Pieces.{length-digits, number_of-digits}
use Rattle.spell.specs.declared.line.Line.TheInside.{Inside}

abbrev pub string_of : Inside → Bits
string_of l = digits_in l.bits l.number

-- the number has no more digits than the line has bits
pub record IsLine (l : Inside) : Type 0 where
  pub few : l.bits ≤ 96
  pub small : l.number < 2 ^ l.bits

-- the line of a string
abbrev pub line_of : Bits → Inside
line_of s = record { number = number_of s; bits = length s }

pub line-back : (l : Inside) → IsLine l → line_of (string_of l) ≡ l
line-back l line =
    λ i. record { number = number_of-digits l.bits l.number line.small i; bits = length-digits l.bits l.number i }
