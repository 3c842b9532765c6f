-- What putting out a block or a number gives and leaves: how many characters, and lent memory.
use Rattle.std.specs.Prelude.{cond, List, ℕ, ltb, length, Result, Ok, Err}
use Rattle.bits.specs.Strings.{Bits, closed}
use Rattle.bits.specs.Binary.{bytes_of}
use Rattle.bits.specs.Texts.{text_of, in_front}
use Rattle.numerals.specs.Numerals.{decimal_of}
use Rattle.refusals.specs.declared.Refusal.{Refusal}
use Rattle.refusals.specs.declared.Refusal.TheVariants.{WrongSize}

-- as text, where there are 96 bytes; else it is refused, and nothing written
unfoldable pub text_put : Bits → List ℕ → Result ℕ Refusal × List ℕ
text_put s m = cond (ltb (length m) 96) (Err WrongSize, m) (Ok (length (closed s)), in_front (text_of (closed s)) m)

-- as a column, where there are 12 bytes
unfoldable pub column_put : Bits → List ℕ → Result ℕ Refusal × List ℕ
column_put s m = cond (ltb (length m) 12) (Err WrongSize, m) (Ok (length (closed s)), in_front (bytes_of 12 s) m)

-- a number in decimal digits, where there are 10 bytes
unfoldable pub decimal_put : ℕ → List ℕ → Result ℕ Refusal × List ℕ
decimal_put n m = cond (ltb (length m) 10) (Err WrongSize, m) (Ok (length (decimal_of n)), in_front (decimal_of n) m)
