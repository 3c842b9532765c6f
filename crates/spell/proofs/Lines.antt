-- Bits appended to a line, and a line turned into a block.
use Rattle.std.specs.Prelude.{◌≡◌, refl, false, ◌++◌, ℕ, ◌+◌, ◌*◌, ◌-◌, ◌/◌, ◌%◌, ◌^◌, ◌≤◌, ◌<◌, length, drop}
use Rattle.std.proofs.Common.{sym, ◌∙◌, ap, mod-eq_of_lt, mul-le-mul_right, arith, length-append, pow-add, pow_mono}
use Rattle.std.proofs.Math.Arith.{digits_mod}
use Rattle.std.proofs.lemmas.Nat.{or_shifted}
use Rattle.std.specs.Int.Bits.{bit_or}
use Rattle.bits.specs.Strings.{Bits}
use Rattle.bits.specs.Binary.{number_of, first_bits, digits_in}
use Rattle.bits.proofs.Numbers.{number_from_lem, number-append}
use Rattle.bits.proofs.Pieces.{length-digits, number_of-digits, digits-of-number}
use Rattle.bits.proofs.Sums.{first-lt, number-first, number_extended, first_shorter}
use Rattle.blocks.specs.Blocks.{block_of}
use Rattle.blocks.proofs.Laws.{block_made}
use Rattle.spell.specs.Lines.{string_of, IsLine}
use Rattle.spell.specs.declared.line.Line.TheInside.{Inside}

-- the n bits of w appended to a line of the string s
module _ {l : Inside} {s : Bits} (line : IsLine l) (is : string_of l ≡ s) (n w : ℕ) (within : w < 2 ^ n)
    (room : length s + n ≤ 96) where
  fits : l.bits + n ≤ 96
  fits = omega (arith, ap length is, length-digits l.bits l.number)

  small : l.number * 2 ^ n + w < 2 ^ (l.bits + n)
  small = rw pow-add (omega (arith, mul-le-mul_right (2 ^ n) line.small, within))

  below : l.number * 2 ^ n + w < 2 ^ 96
  below = omega (arith, small, pow_mono {i = l.bits + n} {j = 96} fits)

  shifted : (l.number * 2 ^ n) % 2 ^ 128 ≡ l.number * 2 ^ n
  shifted = mod-eq_of_lt (omega (arith, below))

  joined : bit_or ((l.number * 2 ^ n) % 2 ^ 128) w ≡ l.number * 2 ^ n + w
  joined = rw shifted (or_shifted l.number n w within)

  abbrev grown : Inside
  grown = record { number = bit_or ((l.number * 2 ^ n) % 2 ^ 128) w; bits = l.bits + n }

  pub line_appended : IsLine grown
  line_appended = record { few = fits; small = rw joined small }

  pub string_appended : string_of grown ≡ s ++ digits_in n w
  string_appended =
      let both = string_of l ++ digits_in n w in
      let size : length both ≡ l.bits + n = rw (length-append, length-digits, length-digits n w) refl in
      let number : number_of both ≡ l.number * 2 ^ n + w =
      rw (
        number-append,
        number_of-digits l.bits l.number line.small,
        number_from_lem,
        length-digits,
        number_of-digits n w within,
      ) refl in
      rw (joined, ← is) (rw (size, number) at (digits-of-number both))

-- a line raised to 96 bits is its string's first 64 bits above its next 32
module _ {l : Inside} {s : Bits} (line : IsLine l) (is : string_of l ≡ s) where
  abbrev raised : ℕ
  raised = (l.number * 2 ^ (96 - l.bits)) % 2 ^ 128

  whole : raised ≡ number_of (first_bits false 96 s)
  whole =
      let size : length s + (96 - l.bits) ≡ 96 =
      omega (arith, ap length is, length-digits l.bits l.number, line.few) in
      let number : number_of s ≡ l.number = rw (← is) (number_of-digits l.bits l.number line.small) in
      let extended : number_of (first_bits false 96 s) ≡ l.number * 2 ^ (96 - l.bits) =
      rw (size, number) at (number_extended (96 - l.bits) s) in
      mod-eq_of_lt (omega (arith, extended, first-lt false 96 s)) ∙ sym extended

  high_word : raised / 2 ^ 32 ≡ number_of (first_bits false 64 s)
  high_word = rw whole (first_shorter false 64 32 s)

  low_word : raised % 2 ^ 32 ≡ number_of (first_bits false 32 (drop 64 s))
  low_word =
      rw (whole, number-first false 64 32 s)
      (digits_mod (number_of (first_bits false 64 s)) (first-lt false 32 (drop 64 s)))

  pub high_fits : raised / 2 ^ 32 < 2 ^ 64
  high_fits = rw high_word (first-lt false 64 s)

  pub line_aligned : record { high = raised / 2 ^ 32; low = raised % 2 ^ 32 } ≡ block_of s
  line_aligned = block_made s high_word low_word
