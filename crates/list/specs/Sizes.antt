-- The lister's lines have at most 130 bytes.
use Rattle.std.specs.Prelude.{ℕ, ◌≤◌, length}
use Rattle.std.proofs.Common.{div-le_self, arith, length-append}
use Rattle.std.proofs.lemmas.List.{length-map}
use Rattle.bits.specs.Strings.{Bits}
use Rattle.families.proofs.Published.{words1983}
use Rattle.fractions.specs.Fractions.{Ratio, gcd, lowest_terms, form_of}
use Rattle.keys.specs.Keys.{key_of, count_of}
use Rattle.keys.specs.Size.{limit}
use Rattle.keys.proofs.Size.{key_size, count_size}
use Rattle.lines.specs.Lines.{printed}
use Rattle.numerals.specs.Numerals.{decimal_of}
use Rattle.numerals.proofs.Laws.{decimal_size}
use Rattle.outcomes.specs.Listing.{entry_of, accepted_line, refused_line}

small_size : (n : ℕ) → n ≤ limit → length (decimal_of n) ≤ 10
small_size n h = decimal_size n (omega arith)

-- three numerals, a key and four marks
entry_size : (r : Ratio) (k : Bits) (n : ℕ) → r.num ≤ limit → r.den ≤ limit → length k ≤ 96 → n ≤ limit
    → length (entry_of r k n) ≤ 130
unfolding entry_of
entry_size r k n a b c d =
    simp (length-append, length-map) (omega (arith, small_size r.num a, small_size r.den b, small_size n d))

pub accepted_size : (p q : ℕ) → 1 ≤ q → p ≤ limit → q ≤ limit → length (accepted_line p q) ≤ 130
unfolding accepted_line lowest_terms
accepted_size p q h a b =
    entry_size (lowest_terms p q) (key_of words1983 p q) (count_of (form_of p q))
    (omega (arith, div-le_self p (gcd p q))) (omega (arith, div-le_self q (gcd p q)))
    (key_size words1983 p q h a b) (omega (arith, count_size words1983 p q h a b))

pub refused_size : (n : ℕ) → n ≤ limit → length (refused_line n) ≤ 130
unfolding refused_line printed
refused_size n h = simp length-append (omega (arith, small_size n h))
