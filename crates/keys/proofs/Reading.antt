-- Reading a string gives quotients that are written as that string: reading undoes writing, over any family.
use Rattle.std.specs.Prelude.{◌≡◌, Bool, not, cond, drop}
use Rattle.std.proofs.Math.Path.{refl}
use Rattle.std.proofs.Common.{sym, ◌∙◌, ap, true≢false, arith, length-drop}
use Rattle.std.proofs.Math.Bool.{true, false}
use Rattle.std.proofs.lemmas.Bool.{false≢true}
use mathlib.Core.List.{List, [], ◌∷◌, ◌++◌}
use Prim.Native.Nat.{ℕ, zero, suc, ◌+◌, ◌*◌, ◌≤◌}
use Rattle.std.proofs.Math.ListN.{length}
use Rattle.std.proofs.lemmas.List.{length-map}
use Rattle.bits.specs.Strings.{Bits, turn, Same}
use Rattle.bits.proofs.Order.{same-ones, same-append, same-drop, same_turned}
use Rattle.bits.proofs.Trim.{same-trimmed}
use Rattle.families.specs.Families.{Below, here, there, Family, ended}
use Rattle.fractions.specs.Fractions.{Quotients, EvenEnded}
use Rattle.fractions.proofs.Lists.{quotients-form}
use Rattle.keys.specs.Keys.{spelled, written, read_from, read, quotients_of}

-- a word has a character
below-length : {s t : Bits} → Below s t → 1 ≤ length s
below-length here = omega arith
below-length (there b h) = omega arith

-- the rounds that may be left
abbrev left : Bool → Bits → ℕ
left z s = 2 * length s + cond z 0 1 + 1

left-falls : (f : ℕ) (z : Bool) (s w : Bits) → ended z s ≡ false → 1 ≤ length w → left z s ≤ suc f
    → left (not z) (turn (drop (length w) s)) ≤ f
left-falls f true [] w e k h = absurd (true≢false e)
left-falls f true (b ∷ s) w e k h = rw (length-map, length-drop) (omega arith)
left-falls f false s w e k h = rw (length-map, length-drop) (omega arith)

-- l is what s, going on with z, spells
pub record Spells (F : Family) (z : Bool) (s : Bits) (l : List ℕ) : Type 0 where
  pub quotients : Quotients z l
  pub same : Same z s (spelled F l)

module _ (F : Family) where
  pub word-positive : (a : ℕ) → 1 ≤ a → 1 ≤ length (F.word a)
  word-positive a h = below-length (F.rising a (suc a) h (omega arith))

  spells-end : (z : Bool) (s : Bits) → ended z s ≡ true → Spells F z s []
  spells-end true s e = record { quotients = refl; same = same-ones s e }
  spells-end false s e = absurd (false≢true e)

  spells-next : (z : Bool) (s : Bits) (a : ℕ) (rest : Bits) (l : List ℕ) → 1 ≤ a → Same z s (F.word a ++ rest)
      → Spells F (not z) (turn (drop (length (F.word a)) s)) l → Spells F z s (a ∷ l)
  spells-next z s a rest l h e r = record {
    quotients = (h, r.quotients);
    same = λ i. e i ∙ same-append z (F.word a) rest (turn (spelled F l))
        (λ j. sym (same-drop z s (F.word a) rest e j)
        ∙ same_turned z (drop (length (F.word a)) s) (spelled F l) r.same j) i;
  }

  read_from-spells : (f : ℕ) (z : Bool) (s : Bits) → left z s ≤ f → Spells F z s (read_from F f z s)
  unfolding read_from
  read_from-spells zero z s h = absurd (omega arith)
  read_from-spells (suc f) z s h =
      by_test (ended z s) refl (read_from-spells f (not z) (turn (drop (length (F.word (F.first z s))) s)))
    where
      a : ℕ
      a = F.first z s

      rest : Bits
      rest = turn (drop (length (F.word a)) s)

      by_test : (b : Bool) → ended z s ≡ b → (left (not z) rest ≤ f → Spells F (not z) rest (read_from F f (not z) rest))
          → Spells F z s (cond b [] (a ∷ read_from F f (not z) rest))
      by_test true e again = spells-end z s e
      by_test false e again =
          let (k, (r, q)) = F.complete z s e in
          spells-next z s a r (read_from F f (not z) rest) k q
          (again (left-falls f z s (F.word a) e (word-positive a k) h))

  pub read-spells : (z : Bool) (s : Bits) → Spells F z s (read F z s)
  unfolding read
  read-spells true s = read_from-spells (2 * length s + 2) true s (omega arith)
  read-spells false s = read_from-spells (2 * length s + 2) false s (omega arith)

  -- rounds beyond those that may be left change nothing
  read_from-more : (f g : ℕ) (z : Bool) (s : Bits) → left z s ≤ f → left z s ≤ g → read_from F f z s ≡ read_from F g z s
  unfolding read_from
  read_from-more zero g z s h k = absurd (omega arith)
  read_from-more (suc f) zero z s h k = absurd (omega arith)
  read_from-more (suc f) (suc g) z s h k = by_test (ended z s) refl (read_from-more f g (not z) rest)
    where
      a : ℕ
      a = F.first z s

      rest : Bits
      rest = turn (drop (length (F.word a)) s)

      by_test : (b : Bool) → ended z s ≡ b
          → (left (not z) rest ≤ f → left (not z) rest ≤ g → read_from F f (not z) rest ≡ read_from F g (not z) rest)
          → cond b [] (a ∷ read_from F f (not z) rest) ≡ cond b [] (a ∷ read_from F g (not z) rest)
      by_test true e again = refl
      by_test false e again =
          let w : 1 ≤ length (F.word a) = word-positive a (F.complete z s e).0 in
          ap {B = List ℕ} (λ l. a ∷ l)
          (again (left-falls f z s (F.word a) e w h) (left-falls g z s (F.word a) e w k))

  left-all : (z : Bool) (s : Bits) → left z s ≤ 2 * length s + 2
  left-all true s = omega arith
  left-all false s = omega arith

  read_round : (z : Bool) (s : Bits) → read F z s ≡ read_from F (suc (2 * length s + 2)) z s
  unfolding read
  read_round z s =
      let n = 2 * length s + 2 in read_from-more n (suc n) z s (left-all z s) (omega (arith, left-all z s))

  -- reading, round by round
  pub read-end : (z : Bool) (s : Bits) → ended z s ≡ true → read F z s ≡ []
  unfolding read_from
  read-end z s e = read_round z s ∙ rw e refl

  pub read-next : (z : Bool) (s : Bits) → ended z s ≡ false
      → read F z s ≡ F.first z s ∷ read F (not z) (turn (drop (length (F.word (F.first z s))) s))
  unfolding read read_from
  read-next z s e =
      let n = 2 * length s + 2 in
      let a = F.first z s in
      let rest = turn (drop (length (F.word a)) s) in
      let enough : left (not z) rest ≤ n =
      left-falls n z s (F.word a) e (word-positive a (F.complete z s e).0) (omega (arith, left-all z s)) in
      read_round z s ∙ rw e (ap {B = List ℕ} (λ l. a ∷ l)
      (read_from-more n (2 * length rest + 2) (not z) rest enough (left-all (not z) rest)))

  written-from_one : (l : List ℕ) → Quotients false l → written F l ≡ true ∷ spelled F l
  written-from_one [] h = absurd (false≢true h)
  written-from_one (zero ∷ l) (h, t) = absurd (omega arith)
  written-from_one (suc a ∷ l) h = refl

  -- the quotients of a key are written as that key
  pub written-same : (k : Bits) → Same false k (written F (quotients_of F k))
  written-same [] = same-trimmed (false ∷ [])
  written-same (true ∷ s) =
      rw (written-from_one (read F false s) (read-spells false s).quotients)
      (same-append false (true ∷ []) s (spelled F (read F false s)) (read-spells false s).same)
  written-same (false ∷ s) =
      same-append false (false ∷ []) s (turn (spelled F (read F true (turn s))))
      (same_turned false s (spelled F (read F true (turn s))) (read-spells true (turn s)).same)

  -- and are in even-ended form
  pub quotients-even_ended : (k : Bits) → EvenEnded (quotients_of F k)
  quotients-even_ended [] = refl
  quotients-even_ended (true ∷ s) = quotients-form false (read F false s) (read-spells false s).quotients
  quotients-even_ended (false ∷ s) = (read-spells true (turn s)).quotients
