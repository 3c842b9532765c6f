-- What the earlier of two lent keys is: one of the two references themselves, or an empty part of the first, whose
-- address and characters are known.
use Rattle.std.specs.Prelude.{◌≡◌, refl, ◌⊎◌, List, [], ◌∷◌, ℕ}
use Rattle.std.proofs.Common.{sym, ◌∙◌, inl, inr}
use Rattle.std.specs.Borrow.{Bor}
use Rattle.bits.specs.Strings.{Bits}
use Rattle.bits.specs.Texts.{bits_of_text}
use Rattle.outcomes.specs.Outcomes.{Outcome, gives}
use Rattle.outcomes.specs.Comparing.{before, same, after, standing, compare_text}
use Rattle.outcomes.proofs.Laws.{given_or_refused}
use Rattle.outcomes.proofs.Standings.{Says, says_before, says_same, says_after, says-standing}
use Rattle.outcomes.specs.Refusals.{key_refusals}

-- r is handed back for j and k. Where comparing refuses, r has the address of j and no character.
pub record Earlier (j k r : Bor (List ℕ)) : Type 0 where
  pub if_before : compare_text j.now k.now ≡ gives (before ∷ []) [] → r ≡ j
  pub if_same : compare_text j.now k.now ≡ gives (same ∷ []) [] → r ≡ j
  pub if_after : compare_text j.now k.now ≡ gives (after ∷ []) [] → r ≡ k
  pub if_refused : ((compare_text j.now k.now).refusal ≡ 0 → ⊥) → (r.ref_ptr ≡ j.ref_ptr) × (r.now ≡ [])

compared : (j k : List ℕ)
    → (compare_text j k ≡ gives (standing (bits_of_text j) (bits_of_text k) ∷ []) [])
    ⊎ ((compare_text j k).refusal ≡ 0 → ⊥)
unfolding compare_text
compared j k =
    given_or_refused (key_refusals j (key_refusals k [])) (standing (bits_of_text j) (bits_of_text k) ∷ []) [] [] refl

-- the contract leaves one result: one reference or, where comparing refuses, one address and no character
pub earlier_unique : (j k r s : Bor (List ℕ)) → Earlier j k r → Earlier j k s
    → (r ≡ s) ⊎ (((compare_text j.now k.now).refusal ≡ 0 → ⊥) × ((r.ref_ptr ≡ s.ref_ptr) × (r.now ≡ s.now)))
earlier_unique j k r s p q = by_outcome _ (compared j.now k.now) (says-standing _ _)
  where
    o : Outcome
    o = compare_text j.now k.now

    by_outcome : (n : ℕ) {x y : Bits} → (o ≡ gives (n ∷ []) []) ⊎ (o.refusal ≡ 0 → ⊥) → Says x y n
        → (r ≡ s) ⊎ ((o.refusal ≡ 0 → ⊥) × ((r.ref_ptr ≡ s.ref_ptr) × (r.now ≡ s.now)))
    by_outcome n (inr h) x =
        inr (h, ((p.if_refused h).0 ∙ sym (q.if_refused h).0, (p.if_refused h).1 ∙ sym (q.if_refused h).1))
    by_outcome n (inl e) (says_before b h) = inl (p.if_before (rw b at e) ∙ sym (q.if_before (rw b at e)))
    by_outcome n (inl e) (says_same b h) = inl (p.if_same (rw b at e) ∙ sym (q.if_same (rw b at e)))
    by_outcome n (inl e) (says_after b h) = inl (p.if_after (rw b at e) ∙ sym (q.if_after (rw b at e)))
