-- Laws of sameness and of the order: both go through a common front, and turning keeps the one and reverses the other.
use Rattle.std.specs.Prelude.{◌≡◌, refl, Bool, true, false, not, [], ◌∷◌, ◌++◌, ℕ, zero, suc, ◌+◌, ◌<◌, get_or, length, drop}
use Rattle.std.proofs.Common.{sym, ◌∙◌, ap, le_of_suc-le-suc, arith, get_or-append-add, get_or-drop}
use Rattle.std.proofs.lemmas.Bool.{false≢true}
use Rattle.std.proofs.Math.Bool.{not-not}
use Rattle.std.proofs.Math.Decide.{dec_lt}
use Rattle.std.proofs.Math.ListN.{get_or-map}
use Rattle.bits.specs.Strings.{Bits, turn, Same, Agree, all_ones, Before}

pub turn-turn : (s : Bits) → turn (turn s) ≡ s
turn-turn [] = refl
turn-turn (b ∷ s) = λ i. not-not b i ∷ turn-turn s i

pub agree-turn : (z : Bool) (n : ℕ) (s t : Bits) → Agree z n s t → Agree (not z) n (turn s) (turn t)
agree-turn z n s t e i h = get_or-map not s i z ∙ ap not (e i h) ∙ sym (get_or-map not t i z)

pub same-turn : (z : Bool) (s t : Bits) → Same z s t → Same (not z) (turn s) (turn t)
same-turn z s t e i = agree-turn z (suc i) s t (λ j h. e j) i (omega arith)

pub same_turned : (z : Bool) (s t : Bits) → Same (not z) (turn s) t → Same z s (turn t)
same_turned z s t e = rw (not-not, turn-turn) at (same-turn (not z) (turn s) t e)

-- a string of ones that goes on with ones is nothing that does
pub same-ones : (s : Bits) → all_ones s ≡ true → Same true s []
same-ones [] e i = refl
same-ones (true ∷ s) e zero = refl
same-ones (true ∷ s) e (suc i) = same-ones s e i
same-ones (false ∷ s) e i = absurd (false≢true e)

pub same-append : (z : Bool) (w s t : Bits) → Same z s t → Same z (w ++ s) (w ++ t)
same-append z [] s t e i = e i
same-append z (b ∷ w) s t e zero = refl
same-append z (b ∷ w) s t e (suc i) = same-append z w s t e i

-- what follows a front is the string without as many bits
pub same-drop : (z : Bool) (s w t : Bits) → Same z s (w ++ t) → Same z (drop (length w) s) t
same-drop z s w t e i = get_or-drop (length w) s i z ∙ e (length w + i) ∙ get_or-append-add w t i z

pub before-first : (z : Bool) (s t : Bits) → get_or s 0 z ≡ false → get_or t 0 z ≡ true → Before z s t
before-first z s t l h = record { place = 0; agree = λ i k. absurd (omega arith); low = l; high = h }

pub before-cons : (z b : Bool) (s t : Bits) → Before z s t → Before z (b ∷ s) (b ∷ t)
before-cons z b s t h = record { place = suc h.place; agree = agree; low = h.low; high = h.high }
  where
    agree : Agree z (suc h.place) (b ∷ s) (b ∷ t)
    agree zero l = refl
    agree (suc i) l = h.agree i (le_of_suc-le-suc l)

pub before-append : (z : Bool) (w s t : Bits) → Before z s t → Before z (w ++ s) (w ++ t)
before-append z [] s t h = h
before-append z (b ∷ w) s t h = before-cons z b (w ++ s) (w ++ t) (before-append z w s t h)

pub before-turn : (z : Bool) (s t : Bits) → Before z s t → Before (not z) (turn t) (turn s)
before-turn z s t h = record {
  place = h.place;
  agree = agree-turn z h.place t s (λ i l. sym (h.agree i l));
  low = get_or-map not t h.place z ∙ ap not h.high;
  high = get_or-map not s h.place z ∙ ap not h.low;
}

-- where strings differ within n bits, others that agree with them in n bits differ alike
pub before-agree : (z : Bool) (n : ℕ) (s s' t t' : Bits) → Agree z n s s' → Agree z n t t'
    → (h : Before z s t) → h.place < n → Before z s' t'
before-agree z n s s' t t' e f h l = record {
  place = h.place;
  agree = λ i k. sym (e i (omega arith)) ∙ h.agree i k ∙ f i (omega arith);
  low = sym (e h.place l) ∙ h.low;
  high = sym (f h.place l) ∙ h.high;
}

pub before-same : (z : Bool) (s s' t t' : Bits) → Same z s s' → Same z t t' → Before z s t → Before z s' t'
before-same z s s' t t' e f h =
    before-agree z (suc h.place) s s' t t' (λ i l. e i) (λ i l. f i) h (omega arith)

pub before-not-same : (z : Bool) (s t : Bits) → Before z s t → Same z s t → ⊥
before-not-same z s t h e = false≢true (sym h.low ∙ e h.place ∙ h.high)

pub before-not_equal : (z : Bool) (s t : Bits) → Before z s t → s ≡ t → ⊥
before-not_equal z s t h e = before-not-same z s t h (λ i. ap (λ (r : Bits). get_or r i z) e)

pub before_asym : (z : Bool) (s t : Bits) → Before z s t → Before z t s → ⊥
before_asym z s t h k = by_place (dec_lt h.place k.place) (dec_lt k.place h.place)
  where
    by_place : Dec (h.place < k.place) → Dec (k.place < h.place) → ⊥
    by_place (yes l) d = false≢true (sym h.low ∙ sym (k.agree h.place l) ∙ h.high)
    by_place (no n) (yes l) = false≢true (sym k.low ∙ sym (h.agree k.place l) ∙ k.high)
    by_place (no n) (no m) = false≢true (sym h.low ∙ ap (λ (i : ℕ). get_or s i z) (omega arith) ∙ k.high)
