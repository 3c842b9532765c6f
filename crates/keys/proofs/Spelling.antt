-- Spelled lists stand as the lists do: in the order of their values.
use Rattle.std.specs.Prelude.{◌≡◌, refl, Bool, true, false, not, List, [], ◌∷◌, ◌++◌, ℕ, zero, suc}
use Rattle.std.proofs.Common.{sym, inl, inr, arith}
use Rattle.std.proofs.lemmas.Bool.{false≢true}
use Rattle.std.proofs.Math.Bool.{not-not}
use Rattle.bits.specs.Strings.{Bits, turn, Same, Before, ◌≺◌}
use Rattle.bits.proofs.Order.{same-ones, before-first, before-cons, before-append, before-turn}
use Rattle.bits.proofs.Order.{before-same, before-not-same}
use Rattle.families.specs.Families.{Below, here, there, Family}
use Rattle.fractions.specs.Fractions.{Quotients, EvenEnded}
use Rattle.fractions.proofs.Lists.{Less, smaller, reversed, finite, Compared, compared}
use Rattle.keys.specs.Keys.{spelled, written}

-- strings that differ inside both stand so whatever follows
below-before : (z : Bool) {s t : Bits} (x y : Bits) → Below s t → Before z (s ++ x) (t ++ y)
below-before z x y (here {s = s} {t = t}) = before-first z (false ∷ (s ++ x)) (true ∷ (t ++ y)) refl refl
below-before z x y (there b {s = s} {t = t} h) = before-cons z b (s ++ x) (t ++ y) (below-before z x y h)

-- what is below another string has a 0 in it, so it stands before all ones
below-ones : {s t : Bits} (x : Bits) → Below s t → Before true (s ++ x) []
below-ones x (here {s = s}) = before-first true (false ∷ (s ++ x)) [] refl refl
below-ones x (there false {s = s} h) = before-first true (false ∷ (s ++ x)) [] refl refl
below-ones x (there true {s = s} h) =
    before-same true (true ∷ (s ++ x)) (true ∷ (s ++ x)) (true ∷ []) [] (λ i. refl) (same-ones (true ∷ []) refl)
    (before-cons true true (s ++ x) [] (below-ones x h))

module _ (F : Family) where
  -- lists stand as their words do; the first is a word (false), or a turned one in a string that is turned back (true)
  spelled-order : (z : Bool) {l m : List ℕ} → Less l m → Quotients z l → Quotients z m
      → Before z (spelled F l) (spelled F m)
  spelled-order z (smaller {a = a} {b = b} h) (k, s) t = below-before z _ _ (F.rising a b k h)
  spelled-order z (reversed a {l = l} {m = m} h) (j, s) (k, t) =
      before-append z (F.word a) (turn (spelled F l)) (turn (spelled F m))
      (rw not-not at (before-turn (not z) (spelled F m) (spelled F l) (spelled-order (not z) h t s)))
  spelled-order true (finite {a = a} {l = l}) (k, s) t =
      below-ones (turn (spelled F l)) (F.rising a (suc a) k (omega arith))
  spelled-order false finite s t = absurd (false≢true t)

  -- and so do even-ended forms and what is written for them
  pub written-order : (l m : List ℕ) → EvenEnded l → EvenEnded m → Less l m → written F l ≺ written F m
  written-order (zero ∷ l) (zero ∷ m) s t (smaller h) = absurd (omega arith)
  written-order (zero ∷ l) (zero ∷ m) s t (reversed _ h) =
      before-cons false false (turn (spelled F l)) (turn (spelled F m))
      (before-turn true (spelled F m) (spelled F l) (spelled-order true h t s))
  written-order (zero ∷ l) (suc b ∷ m) s t h =
      before-first false (written F (zero ∷ l)) (written F (suc b ∷ m)) refl refl
  written-order (suc a ∷ l) (zero ∷ m) s t (smaller h) = absurd (omega arith)
  written-order (suc a ∷ l) (suc b ∷ m) s t h =
      before-cons false true (spelled F (suc a ∷ l)) (spelled F (suc b ∷ m))
      (spelled-order false h (omega arith, s) (omega arith, t))
  written-order [] m s t h = absurd (false≢true s)
  written-order (a ∷ l) [] s t h = absurd (false≢true t)

  -- so two lists that are written alike are one
  pub written_unique : (l m : List ℕ) → EvenEnded l → EvenEnded m → Same false (written F l) (written F m) → l ≡ m
  written_unique l m s t e = by_order (compared l m)
    where
      by_order : Compared l m → l ≡ m
      by_order (inl h) = absurd (before-not-same false (written F l) (written F m) (written-order l m s t h) e)
      by_order (inr (inl q)) = q
      by_order (inr (inr h)) =
          absurd (before-not-same false (written F m) (written F l) (written-order m l t s h) (λ i. sym (e i)))
