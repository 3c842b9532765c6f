-- Each return cites the judgement's law for the tests that led there.
use Rattle.std.specs.Prelude.{ℕ, ◌-◌, ◌<◌, List, get_or, Ok}
use Rattle.std.proofs.Common.{◌≡◌, sym, arith, eqb-true}
use Rattle.std.proofs.Math.Decide.{dec_lt}
use Rattle.std.proofs.lemmas.Bool.{eqb-false}
use Rattle.std.proofs.Math.ListN.{length}
use Rattle.scan.specs.Judging.{judgement}
use Rattle.scan.specs.Verdicts.{judged_empty, judged_long, judged_strange, Cleared, cleared}
use Rattle.scan.specs.Verdicts.{judged_single, judged_open, judged-key}
use Rattle.scan.proofs.judge.Goals as goal
use Rattle.scan.proofs.judge.Goals.{Else-is_empty, Else-at-k}
use Rattle.scan.proofs.judge.Goals.{else-k-last-eq48-via-then-k-last-eq48+else-k-gt1}
use Rattle.scan.proofs.judge.Goals.{else-k-last-eq48-via-else-k-last-eq48}

pub returns-then-is_empty : goal.returns-then-is_empty
returns-then-is_empty c = judged_empty c.args.k.now (eqb-true _ _ (sym c.if-is_empty.ensures))

some : (c : Else-is_empty) → length c.args.k.now ≡ 0 → ⊥
some c = eqb-false _ _ (sym c.if-is_empty.ensures)

pub returns-then-k-gt96 : goal.returns-then-k-gt96
returns-then-k-gt96 c = judged_long c.args.k.now (some (goal.at.returns-then-k-gt96 c).Else-is_empty) (omega arith)

pub returns-then-at-k : goal.returns-then-at-k
returns-then-at-k c =
    let there = some (goal.at.returns-then-at-k c).Else-is_empty in
    judged_strange c.args.k.now there (omega arith) c.first_strange-at.ensures c.if-at-k.true

-- only the last character is left to judge
left : (c : Else-at-k) → Cleared c.args.k.now
left c =
    cleared c.args.k.now (eqb-false _ _ (sym c.if-is_empty.ensures)) (omega arith) c.first_strange-at.ensures
    c.if-at-k.false

pub returns-then-k-gt1 : goal.returns-then-k-gt1
returns-then-k-gt1 c =
    judged_open c.args.k.now (left (goal.at.returns-then-k-gt1 c).Else-at-k) (omega arith) 0 (omega arith)

pub returns : goal.returns
returns c =
    let k = c.args.k.now in
    let here = left (goal.at.returns c).Else-at-k in
    elim c.else-k-last-eq48.branch [
      | else-k-last-eq48-via-then-k-last-eq48+else-k-gt1 w ↦ judged_single k here (omega arith)
      | else-k-last-eq48-via-else-k-last-eq48 w ↦ by_size k here w.if-k-last-eq48.false (dec_lt 1 (length k))
    ]
  where
    by_size : (k : List ℕ) → Cleared k → (get_or k (length k - 1) 0 ≡ 48 → ⊥) → Dec (1 < length k)
        → Ok tt ≡ judgement k
    by_size k here n (yes l) = judged-key k here l 0 n
    by_size k here n (no l) = judged_single k here (omega arith)
