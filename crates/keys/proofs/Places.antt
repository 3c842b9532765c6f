-- Reading from a place in a string: after some characters, where a turned word (z = 1) or a word is due.
use Rattle.std.specs.Prelude.{◌≡◌, refl, Bool, true, false, not, List, [], ◌∷◌, ℕ, zero, suc, ◌+◌, ◌≤◌, ◌<◌, length, get_or, drop}
use Rattle.std.proofs.Common.{sym, ◌∙◌, ap, true≢false, arith, drop_of_length-le, drop-drop}
use Rattle.std.proofs.Math.Decide.{dec_lt}
use Rattle.bits.specs.Strings.{Bits, turn}
use Rattle.bits.proofs.Order.{turn-turn}
use Rattle.bits.proofs.Pieces.{drop-map}
use Rattle.families.specs.Families.{Family, ended}
use Rattle.fractions.specs.Fractions.{Quotients}
use Rattle.keys.specs.Keys.{without_zero, read, quotients_of}
use Rattle.keys.proofs.Reading.{read-spells, read-end, read-next}
use Rattle.keys.specs.Places.{left_at, quotients_at}

-- what is left after n more characters
left-next : (s : Bits) (used n : ℕ) (z : Bool) → turn (drop n (left_at s used z)) ≡ left_at s (used + n) (not z)
left-next s used n true = rw (drop-map, turn-turn) (drop-drop n used s)
left-next s used n false = ap turn (drop-drop n used s)

module _ (F : Family) (s : Bits) (used : ℕ) (z : Bool) where
  pub quotients-end : ended z (left_at s used z) ≡ true → quotients_at F s used z ≡ []
  quotients-end = read-end F z (left_at s used z)

  pub quotients-next : ended z (left_at s used z) ≡ false
      → let a = F.first z (left_at s used z) in
      quotients_at F s used z ≡ a ∷ quotients_at F s (used + length (F.word a)) (not z)
  quotients-next g = read-next F z (left_at s used z) g ∙ rw left-next refl

-- quotients from 1 on have no leading 0
all-written : (l : List ℕ) → Quotients false l → without_zero l ≡ l
all-written [] q = refl
all-written (zero ∷ l) (h, q) = absurd (omega arith)
all-written (suc a ∷ l) q = refl

-- those of a whole string that are written stand after its first character, which says the kind
pub quotients-first : (F : Family) (s : Bits) → 1 ≤ length s
    → quotients_at F s 1 (not (get_or s 0 false)) ≡ without_zero (quotients_of F s)
quotients-first F [] h = absurd (omega arith)
quotients-first F (true ∷ s) h = sym (all-written (read F false s) (read-spells F false s).quotients)
quotients-first F (false ∷ s) h = refl

-- no turned word begins past the end
pub turned_within : (s : Bits) (used : ℕ) → ended true (left_at s used true) ≡ false → used < length s
turned_within s used e = by_size (dec_lt used (length s))
  where
    by_size : Dec (used < length s) → used < length s
    by_size (yes h) = h
    by_size (no h) = let k : length s ≤ used = omega arith in absurd (true≢false (rw (drop_of_length-le s k) at e))
