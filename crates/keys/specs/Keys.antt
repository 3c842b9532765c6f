-- What a key is, and what a key is the key of (001, section III), over any family of words. Counts, canonical keys,
-- cutting and the column are the scope's.
use Rattle.std.specs.Prelude.{◌≡◌, Bool, true, false, not, cond, ◌⊎◌, List, [], ◌∷◌, ◌++◌, ℕ, zero, suc, ◌+◌, ◌*◌, length, take, drop}
use Rattle.bits.specs.Strings.{Bits, turn, closed}
use Rattle.bits.specs.Binary.{bytes_of}
use Rattle.families.specs.Families.{Family, ended}
use Rattle.fractions.specs.Fractions.{Ratio, value_of, form_of}

-- the words of quotients, every second one turned (ii): the word of the first, and the rest spelled and turned as one
abbrev pub spelled : Family → List ℕ → Bits
spelled F [] = []
spelled F (a ∷ l) = F.word a ++ turn (spelled F l)

-- equation (2): 1 and the words from a0 on; or, where a0 is 0, 0 and the turned words from a1 on
abbrev pub written : Family → List ℕ → Bits
written F [] = []
written F (zero ∷ l) = false ∷ turn (spelled F l)
written F (suc a ∷ l) = true ∷ spelled F (suc a ∷ l)

-- the key of p/q; zero has the single character 0
unfoldable pub key_of : Family → ℕ → ℕ → Bits
key_of F p q = closed (written F (form_of p q))

-- the quotients that are written: a leading 0 isn't
abbrev pub without_zero : List ℕ → List ℕ
without_zero [] = []
without_zero (zero ∷ l) = l
without_zero (suc a ∷ l) = suc a ∷ l

-- how many they are
abbrev pub count_of : List ℕ → ℕ
count_of l = length (without_zero l)

-- a key is canonical if it is 0 or ends in 1
abbrev pub Canonical : Bits → Type 0
Canonical k = (k ≡ false ∷ []) ⊎ ((s : Bits) × (k ≡ s ++ (true ∷ [])))

-- Reading goes from word to word of the string extended by zeros. After each word the rest is turned, and so is the bit
-- z that extends it. So a turned word is read as a word, with z = 1, and there it ends where only ones are left: where
-- only zeros remain of the key and a turned word should start. Each round takes a character or leaves none with z = 1,
-- so twice the length and two rounds more are enough.
unfoldable pub read_from : Family → ℕ → Bool → Bits → List ℕ
read_from F zero z s = []
read_from F (suc f) z s =
    let a = F.first z s in
    let more = a ∷ read_from F f (not z) (turn (drop (length (F.word a)) s)) in
    cond (ended z s) [] more

unfoldable pub read : Family → Bool → Bits → List ℕ
read F z s = read_from F (2 * length s + 2) z s

-- the quotients of a key: after 1 a word comes first; after 0 the quotient a0 is 0, and a turned word comes first
abbrev pub quotients_of : Family → Bits → List ℕ
quotients_of F [] = 0 ∷ []
quotients_of F (true ∷ s) = read F false s
quotients_of F (false ∷ s) = 0 ∷ read F true (turn s)

-- the value of a key, or of any string extended by zeros
abbrev pub value_of_key : Family → Bits → Ratio
value_of_key F k = value_of (quotients_of F k)

-- a key cut to n characters
abbrev pub cut_to : ℕ → Bits → Bits
cut_to n k = closed (take n k)

-- the column: 96 bits as 12 bytes
abbrev pub column_of : Bits → List ℕ
column_of k = bytes_of 12 k
