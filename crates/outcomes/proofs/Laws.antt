-- What holds of every call, whatever its order of refusals.
use Rattle.std.specs.Prelude.{◌≡◌, refl, Bool, true, false, ◌&&◌, ◌⊎◌, List, [], ◌∷◌, ℕ, ◌<◌, ltb, length, replicate}
use Rattle.std.proofs.Common.{sym, ◌∙◌, ap, inl, inr, arith, ltb-true}
use Rattle.std.proofs.lemmas.Bool.{false≢true}
use Rattle.std.proofs.lemmas.List.{length-replicate}
use Rattle.outcomes.specs.Outcomes.{Outcome, Answer, Refusal, leaves, gives, first_of, called}
use Rattle.outcomes.specs.Laws.{Clear, Determined}

-- the number is the first in the order whose fault is there
pub called-number : (order : List Refusal) (values before after : List ℕ)
    → (called order values before after).refusal ≡ first_of order
called-number [] v b a = refl
called-number ((n, true) ∷ l) v b a = refl
called-number ((n, false) ∷ l) v b a = called-number l v b a

-- a refused call leaves memory as it was, and its values are zero
pub called-kept : (order : List Refusal) (values before after : List ℕ)
    → ((called order values before after).refusal ≡ 0 → ⊥)
    → ((called order values before after).memory ≡ before)
    × ((called order values before after).values
    ≡ replicate (length (called order values before after).values) 0)
called-kept [] v b a h = absurd (h refl)
called-kept ((n, true) ∷ l) v b a h = (refl, rw length-replicate)
called-kept ((n, false) ∷ l) v b a h = called-kept l v b a h

pub clear-called : (order : List Refusal) (values before after : List ℕ) → Clear order
    → called order values before after ≡ gives values after
clear-called [] v b a c = refl
clear-called ((n, here) ∷ l) v b a (e, c) = rw e (clear-called l v b a c)

-- whether every number of the order is at least 1; of a written order this computes
abbrev pub numbered : List Refusal → Bool
numbered [] = true
numbered ((n, here) ∷ l) = ltb 0 n && numbered l

numbered-first : (n : ℕ) (b : Bool) → (ltb 0 n && b) ≡ true → (0 < n) × (b ≡ true)
numbered-first n b = by_test (ltb 0 n) refl
  where
    by_test : (t : Bool) → ltb 0 n ≡ t → (t && b) ≡ true → (0 < n) × (b ≡ true)
    by_test true e h = (ltb-true 0 n e, h)
    by_test false e h = absurd (false≢true h)

pub clear-first : (order : List Refusal) → numbered order ≡ true → first_of order ≡ 0 → Clear order
clear-first [] k e = tt
clear-first ((n, true) ∷ l) k e = absurd (omega (arith, e, (numbered-first n (numbered l) k).0))
clear-first ((n, false) ∷ l) k e = (refl, clear-first l (numbered-first n (numbered l) k).1 e)

pub clear-number : (order : List Refusal) → Clear order → first_of order ≡ 0
clear-number [] c = refl
clear-number ((n, here) ∷ l) (e, c) = rw e (clear-number l c)

-- a call that gives something met no fault, and gives its values
pub gives-clear : (order : List Refusal) (values before after : List ℕ) → numbered order ≡ true → (v m : List ℕ)
    → called order values before after ≡ gives v m → Clear order × ((values ≡ v) × (after ≡ m))
gives-clear order values before after k v m e =
    let none : first_of order ≡ 0 =
    sym (called-number order values before after) ∙ ap (λ (o : Outcome). o.refusal) e in
    let c = clear-first order k none in
    let same : gives values after ≡ gives v m = sym (clear-called order values before after c) ∙ e in
    (c, (ap (λ (o : Outcome). o.values) same, ap (λ (o : Outcome). o.memory) same))

-- a call gives its values or refuses
pub given_or_refused : (order : List Refusal) (values before after : List ℕ) → numbered order ≡ true
    → (called order values before after ≡ gives values after)
    ⊎ ((called order values before after).refusal ≡ 0 → ⊥)
given_or_refused [] v b a k = inl refl
given_or_refused ((n, true) ∷ l) v b a k = inr (λ e. omega (arith, e, (numbered-first n (numbered l) k).0))
given_or_refused ((n, false) ∷ l) v b a k = given_or_refused l v b a (numbered-first n (numbered l) k).1

pub determined : {A : Type 0} (meaning : A → Answer) (answer_of : Answer → A) → ((r : A) → answer_of (meaning r) ≡ r)
    → (o : Outcome) → Determined meaning o
determined meaning answer_of told o r s m n e f =
    let same = e ∙ sym f in (
      sym (told r)
          ∙ ap (λ (x : Outcome). answer_of (record { refusal = x.refusal; values = x.values })) same ∙ told s,
      ap (λ (x : Outcome). x.memory) same,
    )

-- an answer that says what another does has its outcome
pub same-outcome : (a b : Answer) (m : List ℕ) (o : Outcome) → a ≡ b → leaves b m ≡ o → leaves a m ≡ o
same-outcome a b m o e f = ap (λ (x : Answer). leaves x m) e ∙ f
