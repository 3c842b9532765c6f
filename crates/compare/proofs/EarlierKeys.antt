-- Each answer of comparing makes one of the two lent keys, or the empty part of the first, the earlier key.
use Rattle.std.specs.Prelude.{◌≡◌, refl, List, [], ◌∷◌, ℕ, ◌≤◌, get_or}
use Rattle.std.proofs.Common.{sym, ◌∙◌, ap, arith}
use Rattle.std.specs.Borrow.{Bor}
use Rattle.outcomes.specs.Outcomes.{Outcome, Answer, leaves, gives}
use Rattle.outcomes.specs.Comparing.{before, same, after, compare_text}
use Rattle.compare.specs.Earlier.{Earlier}

module _ (j k : Bor (List ℕ)) (a : Answer) (told : leaves a [] ≡ compare_text j.now k.now) where
  value : (n : ℕ) → compare_text j.now k.now ≡ gives (n ∷ []) [] → get_or a.values 0 0 ≡ n
  value n e = ap (λ (o : Outcome). get_or o.values 0 0) (told ∙ e)

  number : a.refusal ≡ (compare_text j.now k.now).refusal
  number = ap (λ (o : Outcome). o.refusal) told

  pub first-earlier : a.refusal ≡ 0 → get_or a.values 0 0 ≤ same → Earlier j k j
  first-earlier z l = record {
    if_before = λ e. refl;
    if_same = λ e. refl;
    if_after = λ e. absurd (omega (arith, value after e));
    if_refused = λ n. absurd (n (sym number ∙ z));
  }

  pub second_earlier : a.refusal ≡ 0 → get_or a.values 0 0 ≡ after → Earlier j k k
  second_earlier z v = record {
    if_before = λ e. absurd (omega (arith, value before e));
    if_same = λ e. absurd (omega (arith, value same e));
    if_after = λ e. refl;
    if_refused = λ n. absurd (n (sym number ∙ z));
  }

  pub none_earlier : get_or a.values 0 0 ≡ 0
      → Earlier j k (record { ref_ptr = j.ref_ptr; now = [] })
  none_earlier v = record {
    if_before = λ e. absurd (omega (arith, value before e));
    if_same = λ e. absurd (omega (arith, value same e));
    if_after = λ e. absurd (omega (arith, value after e));
    if_refused = λ n. (refl, refl);
  }
