-- A column's bytes, four at a time, as parts of the string of its bits, and its block of three such parts.
use Rattle.std.specs.Prelude.{◌≡◌, false, List, ℕ, ◌+◌, ◌*◌, ◌-◌, ◌≤◌, length, get_or, take, drop, Result, Ok}
use Rattle.std.proofs.Common.{ap, ◌∙◌, arith, eq-eqb}
use Rattle.bits.specs.Binary.{number_of, first_bits, bits_of_bytes}
use Rattle.bits.specs.Texts.{Bytes}
use Rattle.bits.proofs.Sums.{number-first}
use Rattle.bits.proofs.Memory.{lent_part}
use Rattle.blocks.proofs.Laws.{block_made}
use Rattle.blocks.specs.declared.Block.{Block}
use Rattle.refusals.specs.declared.Refusal.{Refusal}
use Rattle.load.specs.Bytes.{number_bytes, bits-drop}
use Rattle.load.specs.Loading.{loaded}

-- the number of the first four bytes, top byte first
abbrev pub four_bytes : List ℕ → ℕ
four_bytes c = number_of (first_bits false 32 (bits_of_bytes c))

pub bytes-four : (c : List ℕ) → 4 ≤ length c → Bytes c
    → get_or c 0 0 * 16777216 + get_or c 1 0 * 65536 + get_or c 2 0 * 256 + get_or c 3 0 ≡ four_bytes c
bytes-four c h small = omega (arith, number_bytes 4 c 0 h small)

-- x, y and z are the column's three fours
pub column-loaded : (c : List ℕ) {x y z : ℕ} → length c ≡ 12 → x ≡ four_bytes c
    → y ≡ four_bytes (take (length c - 4) (drop 4 c)) → z ≡ four_bytes (take (length c - 8) (drop 8 c))
    → Ok record { high = x * 4294967296 + y; low = z } ≡ loaded c
unfolding loaded
column-loaded c {x} {y} {z} l e f g =
    let s = bits_of_bytes c in
    let second : y ≡ number_of (first_bits false 32 (drop 32 s)) = f ∙ rw (lent_part c 4, bits-drop 4 c) in
    let low : z ≡ number_of (first_bits false 32 (drop 64 s)) = g ∙ rw (lent_part c 8, bits-drop 8 c) in
    let high : x * 4294967296 + y ≡ number_of (first_bits false 64 s) = omega (arith, number-first false 32 32 s) in
    rw (eq-eqb (length c) 12 l) (ap {B = Result Block Refusal} Ok (block_made s high low))
