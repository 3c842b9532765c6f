-- Numbers as bytes, top byte first, and the bytes of a block's bits as those of its two words.
use Rattle.std.specs.Prelude.{◌≡◌, refl, false, List, [], ◌∷◌, ◌++◌, ℕ, zero, suc, ◌+◌, ◌*◌, ◌/◌, ◌%◌, ◌^◌, ◌≤◌, ◌<◌, length, take, drop}
use Rattle.std.specs.Int.{w32, w64, to_be_bytes, bytes_high_first}
use Rattle.std.proofs.Common.{div-one, sym, ◌∙◌, ap, ap₂, zero-add, suc-add, pow-suc, arith, pow-add, length-drop}
use Rattle.std.proofs.Math.Arith.{digits_div, digits_mod}
use Rattle.std.proofs.lemmas.List.{drop-append-le}
use Rattle.bits.specs.Strings.{Bits}
use Rattle.bits.specs.Binary.{number_from, number_of, first_bits, bytes_of, digits_in}
use Rattle.bits.specs.Texts.{in_front}
use Rattle.bits.proofs.Numbers.{number_from_lem, number-append, number-lt}
use Rattle.bits.proofs.Memory.{front-more}
use Rattle.bits.proofs.Pieces.{length-first, first-before, first-rest, length-digits, number_of-digits}
use Rattle.blocks.specs.declared.Block.{Block}
use Rattle.blocks.specs.Blocks.{bits_of_block}

-- the n lowest bytes of v
unfoldable pub bytes_in : ℕ → ℕ → List ℕ
bytes_in zero v = []
bytes_in (suc n) v = v / 256 ^ n % 256 ∷ bytes_in n v

-- as the library's methods have them
pub bytes-high : (n v : ℕ) → bytes_high_first n v ≡ bytes_in n v
unfolding bytes_in
bytes-high zero v = refl
bytes-high (suc zero) v = rw div-one
bytes-high (suc (suc n)) v = ap {B = List ℕ} (λ l. v / 256 ^ suc n % 256 ∷ l) (bytes-high (suc n) v)

pub length-bytes : (n v : ℕ) → length (bytes_in n v) ≡ n
unfolding bytes_in
length-bytes zero v = refl
length-bytes (suc n) v = ap suc (length-bytes n v)

bytes-append : (m n : ℕ) (s t : Bits) → length s ≡ 8 * m → bytes_of (m + n) (s ++ t) ≡ bytes_of m s ++ bytes_of n t
bytes-append zero n [] t e = rw zero-add
bytes-append zero n (b ∷ s) t e = absurd (omega arith)
bytes-append (suc m) n s t e =
    let h : 8 ≤ length s = omega arith in
    let rest : length (drop 8 s) ≡ 8 * m = rw length-drop (omega arith) in
    rw (suc-add, first-before false 8 s t h, drop-append-le 8 s t h, bytes-append m n (drop 8 s) t rest)

byte-power : (n : ℕ) → 2 ^ (8 * n) ≡ 256 ^ n
byte-power zero = refl
byte-power (suc n) =
    let more : 8 * suc n ≡ 8 * n + 8 = omega arith in
    rw (more, pow-add 2 (8 * n) 8, byte-power n, pow-suc 256 n)

-- the top byte of a string's number is the number of its first eight bits
byte_top : (n v : ℕ) (f d : Bits) → length f ≡ 8 → length d ≡ 8 * n
    → number_from v (f ++ d) / 256 ^ n % 256 ≡ number_of f
byte_top n v f d k l =
    let room : number_of d < 256 ^ n = rw (l, byte-power) at (number-lt d) in
    rw (
      number-append v f d,
      number_from_lem (number_from v f) d,
      l,
      byte-power n,
      digits_div (number_from v f) room,
      number_from_lem v f,
      k,
    )
    (digits_mod v (rw k at (number-lt f)))

-- whatever is read before a string of n bytes stands above them
bytes-from : (n v : ℕ) (s : Bits) → length s ≡ 8 * n → bytes_of n s ≡ bytes_in n (number_from v s)
unfolding bytes_in
bytes-from zero v s e = refl
bytes-from (suc n) v s e =
    let f = first_bits false 8 s in
    let d = drop 8 s in
    let rest : length d ≡ 8 * n = rw length-drop (omega arith) in
    ap₂ {C = List ℕ} (λ x l. x ∷ l) (sym (byte_top n v f d (length-first false 8 s) rest))
    (bytes-from n (number_from v f) d rest ∙ ap (bytes_in n) (sym (number-append v f d)))
    ∙ ap (λ (r : Bits). bytes_in (suc n) (number_from v r)) (first-rest false 8 s (omega arith))

pub block-bytes : (b : Block) → b.high < 2 ^ 64 → b.low < 2 ^ 32
    → bytes_of 12 (bits_of_block b) ≡ bytes_in 8 b.high ++ bytes_in 4 b.low
unfolding bits_of_block
block-bytes b h l =
    let s = digits_in 64 b.high in
    let t = digits_in 32 b.low in
    let long : length s ≡ 64 = length-digits 64 b.high in
    let short : length t ≡ 32 = length-digits 32 b.low in
    bytes-append 8 4 s t long
    ∙ ap₂ {C = List ℕ} (λ x y. x ++ y)
    (rw (number_of-digits 64 b.high h) at (bytes-from 8 0 s long))
    (rw (number_of-digits 32 b.low l) at (bytes-from 4 0 t short))

-- the two words put out one behind the other
pub words-front : (b : Block) (m : List ℕ) {xs ys : List ℕ} → b.high < 2 ^ 64 → b.low < 2 ^ 32
    → xs ≡ to_be_bytes w64 b.high → ys ≡ to_be_bytes w32 b.low
    → take 8 (xs ++ drop 8 m) ++ (ys ++ drop 4 (drop 8 (xs ++ drop 8 m))) ≡ in_front (bytes_of 12 (bits_of_block b)) m
words-front b m {xs} {ys} h l d e =
    let first = bytes_in 8 b.high in
    let second = bytes_in 4 b.low in
    rw (d ∙ bytes-high 8 b.high, e ∙ bytes-high 4 b.low)
    (rw (length-bytes 8 b.high, length-bytes 4 b.low) at (front-more first second m 8 (length-bytes 8 b.high)))
    ∙ ap (λ (t : List ℕ). in_front t m) (sym (block-bytes b h l))
