-- What a program over lines promises: its input is split at newlines, each line is answered, and the answers are
-- joined.
use Rattle.std.specs.Prelude.{◌≡◌, false, cond, ℕ, eqb}
use mathlib.Core.List.{List, [], ◌∷◌, map, flatten}
use Prim.Native.Char.{code}
use Prim.Native.String.{String, [] as []ᵗ, ◌∷◌ as ◌∷ᵗ◌}

-- the bytes of a printed text
unfoldable pub printed : String → List ℕ
printed []ᵗ = []
printed (c ∷ᵗ s) = code c ∷ printed s

-- c in front of the first line, or as a line of its own where there is none
abbrev pub in_first : ℕ → List (List ℕ) → List (List ℕ)
in_first c [] = (c ∷ []) ∷ []
in_first c (l ∷ ls) = (c ∷ l) ∷ ls

-- the lines of an input, without their newlines; the last may lack its newline, and nothing after it is no line
unfoldable pub lines_of : List ℕ → List (List ℕ)
lines_of [] = []
lines_of (c ∷ t) = cond (eqb c 10) ([] ∷ lines_of t) (in_first c (lines_of t))

-- no byte of l is a newline
abbrev pub Unbroken : List ℕ → Type 0
Unbroken [] = Unit {0}
Unbroken (c ∷ l) = (eqb c 10 ≡ false) × Unbroken l

-- the output for an input, by the answer to a line
unfoldable pub answered : (List ℕ → List ℕ) → List ℕ → List ℕ
answered answer input = flatten (map answer (lines_of input))
