-- What a family of words for the whole numbers from 1 on is. Order and reading back are proved once, over any family.
use Rattle.std.specs.Prelude.{◌≡◌, Bool, true, false, ◌&&◌, ◌∷◌, ◌++◌, ℕ, ◌*◌, ◌^◌, ◌≤◌, ◌<◌, length}
use Rattle.bits.specs.Strings.{Bits, Same, all_ones}

-- s and t differ inside both: after a common front s has 0 and t has 1
pub data Below : Bits → Bits → Type 0 where
  here : {s t : Bits} → Below (false ∷ s) (true ∷ t)
  there : (b : Bool) {s t : Bits} → Below s t → Below (b ∷ s) (b ∷ t)

-- s, going on with z, is all ones: no word begins it
abbrev pub ended : Bool → Bits → Bool
ended z s = z && all_ones s

pub record Family : Type 0 where
  -- the word of each whole number from 1 on
  pub word : ℕ → Bits
  -- in rising order and prefix-free: two words differ inside both, the smaller number's below
  pub rising : (i j : ℕ) → 1 ≤ i → i < j → Below (word i) (word j)
  -- the number whose word begins s, going on with z
  pub first : Bool → Bits → ℕ
  -- complete: s, going on with z, begins with a word, unless it is all ones
  pub complete : (z : Bool) (s : Bits) → ended z s ≡ false
      → (1 ≤ first z s) × ((rest : Bits) × Same z s (word (first z s) ++ rest))
  -- short enough for the limit of 96 characters
  pub short : (i : ℕ) → 1 ≤ i → 2 ^ length (word i) ≤ 2 * (i * i)
