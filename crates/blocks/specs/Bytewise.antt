-- The bytes of a machine word, lowest first, what a mask leaves of them, and facts that are checked of every byte.
use Rattle.std.specs.Prelude.{List, [], ◌∷◌, ℕ, zero, suc, ◌+◌, ◌*◌, ◌/◌, ◌%◌, ◌^◌}

-- the n lowest bytes of w
unfoldable pub low_bytes : ℕ → ℕ → List ℕ
low_bytes zero w = []
low_bytes (suc n) w = w % 256 ∷ low_bytes n (w / 256)

-- a 1 in each of the n lowest bytes
abbrev pub ones : ℕ → ℕ
ones zero = 0
ones (suc n) = ones n * 2 ^ 8 + 1

-- the lowest bit of each byte, as the bytes of a number
unfoldable pub low_bits : List ℕ → ℕ
low_bits [] = 0
low_bits (c ∷ l) = low_bits l * 2 ^ 8 + c % 2

-- what f makes of each number below n
unfoldable pub table : {A : Type 0} → (ℕ → A) → ℕ → List A
table f zero = []
table f (suc n) = f n ∷ table f n
