-- Bytes that move up or down in memory by w places, one store after the other.
use Rattle.std.specs.Prelude.{◌≡◌, refl, List, [], ◌∷◌, ◌++◌, ℕ, suc, ◌+◌, ◌-◌, ◌≤◌, ◌<◌, length, get_or, take, drop, set}
use Rattle.std.proofs.Common.{sym, ◌∙◌, ap, add-one, arith, length-take, length-drop, length-set, length-take-le, take-suc, drop-cons, get_or-take, get_or-drop}
use Rattle.std.proofs.Math.ListN.{get_or-append}
use Rattle.bits.specs.Texts.{pasted}
use Rattle.bits.proofs.Pasting.{pasted_none, pasted-rest, pasted-more, pasted-before, pasted_one}

module _ (w at last : ℕ) (m : List ℕ) where
  -- l is memory in which the bytes from i to last stand w places up
  pub record Raised (l : List ℕ) (i : ℕ) : Type 0 where
    pub begun : i ≤ last
    pub within : at ≤ i
    pub same : length l ≡ length m
    pub memory : l ≡ pasted (take (last - i) (drop i m)) (i + w) m

  -- l is memory in which the bytes from at to i are those from w places up
  pub record Lowered (l : List ℕ) (i : ℕ) : Type 0 where
    pub begun : at ≤ i
    pub within : i ≤ last
    pub same : length l ≡ length m
    pub memory : l ≡ pasted (take (i - at) (drop (at + w) m)) at m

module _ {w at last : ℕ} {m : List ℕ} (room : last + w ≤ length m) where
  pub raised-start : at ≤ last → Raised w at last m m last
  raised-start h =
      let none : last - last ≡ 0 = omega arith in
      record { begun = omega arith; within = h; same = refl; memory = rw none (sym (pasted_none (last + w) m)) }

  pub raised-more : {l o : List ℕ} (i j : ℕ) → Raised w at last m l i → i ≡ j + 1 → at ≤ j
      → o ≡ set l (j + w) (get_or l j 0) → Raised w at last m o j
  raised-more {l} {o} i j so e h f =
      let text = take (last - (j + 1)) (drop (j + 1) m) in
      let place : j + 1 + w ≡ j + w + 1 = omega arith in
      let so_far : l ≡ pasted text (j + w + 1) m = so.memory ∙ rw (e, place) in
      let long : length (take (j + w + 1) m) ≡ j + w + 1 =
      length-take-le (j + w + 1) m (omega (arith, so.begun)) in
      let below : get_or l j 0 ≡ get_or m j 0 =
      rw so_far (get_or-append (take (j + w + 1) m) _ 0 j (omega arith) ∙ get_or-take (j + w + 1) m j 0 (omega arith)) in
      let next : get_or m j 0 ∷ text ≡ take (last - j) (drop j m) =
      let more : last - j ≡ suc (last - (j + 1)) = omega (arith, so.begun) in
      rw (more, drop-cons m j 0 (omega (arith, so.begun)), ← add-one j) in
      let size : length text ≤ last - (j + 1) = rw length-take (omega arith) in
      record {
        begun = omega (arith, so.begun);
        within = h;
        same = ap length f ∙ length-set l _ _ ∙ so.same;
        memory = f ∙ rw below (pasted_one l (j + w) (get_or m j 0) (omega (arith, so.begun, so.same)))
            ∙ ap (pasted (get_or m j 0 ∷ []) (j + w)) so_far
            ∙ pasted-before (get_or m j 0 ∷ []) text m (j + w) 1 refl (omega (arith, so.begun))
            ∙ ap (λ (t : List ℕ). pasted t (j + w) m) next;
      }

  pub lowered-start : at ≤ last → Lowered w at last m m at
  lowered-start h =
      let none : at - at ≡ 0 = omega arith in
      record { begun = omega arith; within = h; same = refl; memory = rw none (sym (pasted_none at m)) }

  pub lowered-more : {l o : List ℕ} (i : ℕ) → Lowered w at last m l i → i < last → o ≡ set l i (get_or l (i + w) 0)
      → Lowered w at last m o (i + 1)
  lowered-more {l} {o} i so h f =
      let n = i - at in
      let text = drop (at + w) m in
      let here : at + n ≡ i = omega (arith, so.begun) in
      let there : at + w + n ≡ i + w = omega (arith, so.begun) in
      let few : n < length text = rw length-drop (omega (arith, so.begun)) in
      let long : length (take n text) ≡ n = length-take-le n text (omega arith) in
      let rest : drop (at + n) l ≡ drop (at + n) m =
      rw so.memory (pasted-rest at m (omega (arith, so.begun)) (take n text) n long) in
      let above : get_or l (i + w) 0 ≡ get_or text n 0 =
      sym (get_or-drop i l w 0) ∙ ap (λ (t : List ℕ). get_or t w 0) (rw here at rest) ∙ get_or-drop i m w 0
      ∙ ap (λ (k : ℕ). get_or m k 0) (sym there) ∙ sym (get_or-drop (at + w) m n 0) in
      let stored : pasted (get_or text n 0 ∷ []) (at + n) l ≡ pasted (take n text ++ (get_or text n 0 ∷ [])) at m =
      rw so.memory
      (pasted-more at m (omega (arith, so.begun)) (take n text) (get_or text n 0 ∷ []) n long) in
      let one_more : i + 1 - at ≡ suc n = omega (arith, so.begun) in
      record {
        begun = omega (arith, so.begun);
        within = omega arith;
        same = ap length f ∙ length-set l _ _ ∙ so.same;
        memory = f ∙ rw above (pasted_one l i (get_or text n 0) (omega (arith, so.same)))
            ∙ rw here at stored
            ∙ rw (one_more, take-suc text n 0 few);
      }
