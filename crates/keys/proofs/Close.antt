-- Two lists of quotients whose 1983 words agree in their first k bits have values that are near each other, both ways.
use Rattle.std.specs.Prelude.{◌≡◌, Bool, true, false, not, List, [], ◌∷◌, ◌++◌, ℕ, suc, ◌+◌, ◌*◌, ◌-◌, ◌^◌, ◌≤◌, length, replicate, take}
use Rattle.std.proofs.Common.{sym, ◌∙◌, ap, append_assoc, arith, pow_mono, pow-add}
use Rattle.std.proofs.lemmas.Bool.{false≢true}
use Rattle.bits.specs.Strings.{Bits, turn, Agree}
use Rattle.bits.specs.Binary.{number_from}
use Rattle.bits.proofs.Order.{turn-turn, agree-turn}
use Rattle.families.specs.Words.{digits_after_one, word_of}
use Rattle.families.proofs.Digits.{number-digits}
use Rattle.families.proofs.Measured.{digits_low}
use Rattle.families.proofs.Meeting.{ones-meet, RunsMeet, runs_meet, DigitsMeet, digits_meet, Block, block}
use Rattle.families.proofs.Published.{words1983}
use Rattle.fractions.specs.Fractions.{Ratio, onto, value_of, Quotients}
use Rattle.fractions.proofs.Lists.{Spread, value_spread}
use Rattle.keys.specs.Keys.{spelled}
use Rattle.keys.proofs.Near.{Denominators, after, Near, Far, far-onto, near-far, near-digits, near-next}

-- the words of a list
abbrev pub words : List ℕ → Bits
words l = spelled words1983 l

-- the ones in front of the word of a
abbrev run : ℕ → ℕ
run a = length (digits_after_one a)

words-first : (a : ℕ) (l : List ℕ)
    → words (a ∷ l) ≡ replicate (run a) true ++ (false ∷ (digits_after_one a ++ turn (words l)))
unfolding word_of
words-first a l = append_assoc (replicate (run a) true) (false ∷ digits_after_one a) (turn (words l))

-- each is near the other
abbrev pub Close : ℕ → Denominators → Ratio → Ratio → Type 0
Close k D x y = Near k D x y × Near k D y x

-- both are in reach of one run
close-far : (z : Bool) (k : ℕ) (D : Denominators) (l m : List ℕ) → Quotients z l → Quotients z m
    → Far z k (value_of l) → Far z k (value_of m) → Close k D (value_of l) (value_of m)
close-far z k D l m p q f g =
    let s = value_spread z l p in
    let t = value_spread z m q in
    (near-far k D z (value_of l) (value_of m) s t g, near-far k D z (value_of m) (value_of l) t s f)

-- infinity is in reach of every run, and a word of those within its own
far_none : (k : ℕ) → Far true k (value_of [])
far_none k = omega arith

far-word : (z : Bool) (k a : ℕ) (l : List ℕ) → Quotients z (a ∷ l) → k ≤ run a → Far z k (value_of (a ∷ l))
far-word z k a l (h, q) e =
    far-onto z k a (value_of l) (value_spread (not z) l q) (omega (arith, digits_low a h, pow_mono e))

-- the words of a and b agree in their runs and in j digits
close-digits : (z : Bool) (j a b : ℕ) (D : Denominators) (x y : Ratio) → 1 ≤ a → 1 ≤ b → Spread z x → Spread z y
    → run a ≡ run b → j ≤ run a → take j (digits_after_one a) ≡ take j (digits_after_one b)
    → Close (suc (run a) + j) D (onto a x) (onto b y)
close-digits z j a b D x y ha hb s t e h p = (
  near-digits z j (run a) A H a b D x y width of-a of-b s t,
  near-digits z j (run a) A H b a D y x width of-b of-a t s,
)
  where
    H : ℕ
    H = 2 ^ (run a - j)

    A : ℕ
    A = number_from 1 (take j (digits_after_one a)) * H

    width : H * 2 ^ j ≡ 2 ^ run a
    width = sym (pow-add 2 (run a - j) j) ∙ ap (λ (n : ℕ). 2 ^ n) (omega arith)

    of-a : Block A H (run a) a
    of-a = rw (number-digits a ha) at (block j (digits_after_one a) h)

    of-b : Block A H (run a) b
    of-b = rw (e, p) (rw (number-digits b hb) at (block j (digits_after_one b) (omega arith)))

-- they are one word
close-next : (a i : ℕ) (h : 1 ≤ a) (D : Denominators) (x y : Ratio) → Close i (after a h D) x y
    → Close (suc (run a) + run a + i) D (onto a x) (onto a y)
close-next a i h D x y c =
    (near-next (run a) a i h D x y (digits_low a h) c.1, near-next (run a) a i h D y x (digits_low a h) c.0)

-- two lists that begin with the words of a and b; `again` says how close what follows one word is
module _ (z : Bool) (a b : ℕ) (l m : List ℕ) (p : Quotients z (a ∷ l)) (q : Quotients z (b ∷ m))
    (k : ℕ) (D : Denominators)
    (again : (i : ℕ) → Agree (not z) i (words l) (words m) → Close i (after a p.0 D) (value_of l) (value_of m)) where
  past_run : run a ≡ run b → (j : ℕ) → k ≡ suc (run a) + j
      → DigitsMeet z j (digits_after_one a) (digits_after_one b) (turn (words l)) (turn (words m))
      → Close k D (value_of (a ∷ l)) (value_of (b ∷ m))
  past_run g j n (DigitsMeet.inside h d) =
      let s = value_spread (not z) l p.1 in
      let t = value_spread (not z) m q.1 in
      rw n (close-digits (not z) j a b D (value_of l) (value_of m) p.0 q.0 s t g h d)
  past_run g j n (DigitsMeet.past d i c f) =
      let one : b ≡ a = sym (number-digits b q.0) ∙ ap (number_from 1) (sym d) ∙ number-digits a p.0 in
      let whole : k ≡ suc (run a) + run a + i = omega arith in
      let rest : Agree (not z) i (words l) (words m) =
      rw (turn-turn (words l), turn-turn (words m)) at (agree-turn z i (turn (words l)) (turn (words m)) f) in
      rw (whole, one) (close-next a i p.0 D (value_of l) (value_of m) (again i rest))

  close-words : Agree z k (words (a ∷ l)) (words (b ∷ m)) → Close k D (value_of (a ∷ l)) (value_of (b ∷ m))
  close-words e = by_run (runs_meet z k (run a) (run b) _ _ (rw (words-first a l, words-first b m) at e))
    where
      by_run : RunsMeet z k (run a) (run b) (digits_after_one a ++ turn (words l)) (digits_after_one b ++ turn (words m))
          → Close k D (value_of (a ∷ l)) (value_of (b ∷ m))
      by_run (RunsMeet.inside f g) = close-far z k D (a ∷ l) (b ∷ m) p q (far-word z k a l p f) (far-word z k b m q g)
      by_run (RunsMeet.past g j n f) =
          past_run g j n (digits_meet z j (digits_after_one a) (digits_after_one b) (turn (words l)) (turn (words m)) g f)

-- two lists that are spelled alike in the first k bits, after any two convergents
pub close : (z : Bool) (l m : List ℕ) → Quotients z l → Quotients z m → (k : ℕ) → Agree z k (words l) (words m)
    → (D : Denominators) → Close k D (value_of l) (value_of m)
close true [] [] p q k e D = close-far true k D [] [] p q (far_none k) (far_none k)
close true [] (b ∷ m) p q k e D =
    close-far true k D [] (b ∷ m) p q (far_none k)
    (far-word true k b m q (ones-meet k (run b) _ (rw words-first at e)))
close true (a ∷ l) [] p q k e D =
    close-far true k D (a ∷ l) [] p q
    (far-word true k a l p (ones-meet k (run a) _ (λ i j. sym ((rw words-first at e) i j)))) (far_none k)
close false [] m p q k e D = absurd (false≢true p)
close false (a ∷ l) [] p q k e D = absurd (false≢true q)
close z (a ∷ l) (b ∷ m) p q k e D =
    close-words z a b l m p q k D (λ j f. close (not z) l m p.1 q.1 j f (after a p.0 D)) e
