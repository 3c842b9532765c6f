-- A column's bytes as parts of the string of its bits, and its block of two such parts.
use Rattle.std.specs.Prelude.{◌≡◌, refl, false, List, [], ◌∷◌, ℕ, zero, suc, ◌+◌, ◌*◌, ◌^◌, ◌≤◌, ◌<◌, length, get_or, take, drop, Result, Ok, Err}
use Rattle.std.specs.Int.{w32, w64, from_be_bytes}
use Rattle.std.proofs.Common.{sym, ap, ◌∙◌, arith, eq-eqb, ne_eqb, drop-cons}
use Rattle.std.proofs.lemmas.List.{get_or-take, get_or-drop}
use Rattle.std.proofs.Math.Seq.{drop-nil, drop-append-add}
use Rattle.bits.specs.Binary.{number_of, first_bits, digits_in, bits_of_bytes}
use Rattle.bits.specs.Texts.{Bytes}
use Rattle.bits.proofs.Pieces.{length-digits, number_of-digits}
use Rattle.bits.proofs.Columns.{byte-bits, byte-rest}
use Rattle.bits.proofs.Sums.{number-first}
use Rattle.blocks.proofs.Laws.{block_made}
use Rattle.refusals.specs.declared.Refusal.{Refusal}
use Rattle.refusals.specs.declared.Refusal.TheVariants.{WrongColumn}
use Rattle.blocks.specs.declared.Block.{Block}
use Rattle.load.specs.Loading.{loaded}

-- a byte goes before the next n bits
byte-first : (n a : ℕ) (l : List ℕ) → a < 256
    → number_of (first_bits false (8 + n) (bits_of_bytes (a ∷ l)))
    ≡ a * 2 ^ n + number_of (first_bits false n (bits_of_bytes l))
byte-first n a l h =
    number-first false 8 n (bits_of_bytes (a ∷ l)) ∙ rw (byte-bits a l, number_of-digits 8 a h, byte-rest a l)

-- the number of n bytes from a place on, top byte first
abbrev pub number_at : List ℕ → ℕ → ℕ → ℕ
number_at c i zero = 0
number_at c i (suc n) = get_or c i 0 * 2 ^ (8 * n) + number_at c (suc i) n

pub number_bytes : (n : ℕ) (c : List ℕ) (i : ℕ) → i + n ≤ length c → Bytes c
    → number_of (first_bits false (8 * n) (bits_of_bytes (drop i c))) ≡ number_at c i n
number_bytes zero c i h small = refl
number_bytes (suc n) c i h small =
    let more : 8 * suc n ≡ 8 + 8 * n = omega arith in
    let within : i < length c = omega arith in
    rw (more, drop-cons c i 0, byte-first (8 * n) (get_or c i 0) (drop (suc i) c) (small i))
    (ap (λ (x : ℕ). get_or c i 0 * 2 ^ (8 * n) + x) (number_bytes n c (suc i) (omega arith) small))

-- bytes left out are eight bits each
pub bits-drop : (n : ℕ) (c : List ℕ) → bits_of_bytes (drop n c) ≡ drop (n * 8) (bits_of_bytes c)
bits-drop zero c = refl
bits-drop (suc n) [] = sym (drop-nil (suc n * 8))
bits-drop (suc n) (a ∷ c) =
    let eight : length (digits_in 8 a) + n * 8 ≡ suc n * 8 = omega (arith, length-digits 8 a) in
    bits-drop n c
    ∙ sym (drop-append-add (digits_in 8 a) (bits_of_bytes c) (n * 8))
    ∙ ap (λ (m : ℕ). drop m (bits_of_bytes (a ∷ c))) eight

pub column_wrong : (c : List ℕ) → (length c ≡ 12 → ⊥) → Err WrongColumn ≡ loaded c
unfolding loaded
column_wrong c n = rw (ne_eqb (length c) 12 n)

-- the bytes of the first n count alone
number_within : (n m : ℕ) (c : List ℕ) (i : ℕ) → i + m ≤ n → number_at (take n c) i m ≡ number_at c i m
number_within n zero c i h = refl
number_within n (suc m) c i h =
    rw (get_or-take n c i 0 (omega arith))
    (ap (λ (x : ℕ). get_or c i 0 * 2 ^ (8 * m) + x) (number_within n m c (suc i) (omega arith)))

number_behind : (n m : ℕ) (c : List ℕ) (i : ℕ) → number_at (drop n c) i m ≡ number_at c (n + i) m
number_behind n zero c i = refl
number_behind n (suc m) c i =
    let next : n + suc i ≡ suc (n + i) = omega arith in
    rw (get_or-drop n c i 0)
    (ap (λ (x : ℕ). get_or c (n + i) 0 * 2 ^ (8 * m) + x) (rw next at (number_behind n m c (suc i))))

-- x and y are the column's first eight bytes and its last four
pub column-loaded : (c : List ℕ) {x y : ℕ} → length c ≡ 12 → Bytes c → x ≡ from_be_bytes w64 (take 8 c)
    → y ≡ from_be_bytes w32 (drop 8 c) → Ok record { high = x; low = y } ≡ loaded c
unfolding loaded
column-loaded c {x} {y} l small e f =
    let s = bits_of_bytes c in
    let high : x ≡ number_of (first_bits false 64 s) =
    omega (arith, e, number_within 8 8 c 0 (omega arith), number_bytes 8 c 0 (omega arith) small) in
    let low : y ≡ number_of (first_bits false 32 (drop 64 s)) =
    omega (arith, f, number_behind 8 4 c 0, rw (bits-drop 8 c) at (number_bytes 4 c 8 (omega arith) small)) in
    rw (eq-eqb (length c) 12 l) (ap {B = Result Block Refusal} Ok (block_made s high low))
