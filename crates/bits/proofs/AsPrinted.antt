-- The order that 001 prints of three strings, of which the shortest stands last (section III).
use Rattle.std.specs.Prelude.{refl, false}
use Rattle.bits.specs.Strings.{bits_of, ◌≺◌}
use Rattle.bits.proofs.Order.{before-first, before-append}

order_example : bits_of "11010010011011" ≺ bits_of "1101001001110111"
unfolding bits_of
order_example =
    before-append false (bits_of "11010010011") (bits_of "011") (bits_of "10111")
    (before-first false (bits_of "011") (bits_of "10111") refl refl)

order_example_shorter : bits_of "1101001001110111" ≺ bits_of "110100101"
unfolding bits_of
order_example_shorter =
    before-append false (bits_of "11010010") (bits_of "01110111") (bits_of "1")
    (before-first false (bits_of "01110111") (bits_of "1") refl refl)
