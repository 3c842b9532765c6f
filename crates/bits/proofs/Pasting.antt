-- A text written into memory from a place on, and texts one beside the other.
use Rattle.std.specs.Prelude.{◌≡◌, refl, List, [], ◌∷◌, ◌++◌, ℕ, ◌+◌, ◌≤◌, ◌<◌, length, take, drop, set}
use Rattle.std.proofs.Common.{sym, ◌∙◌, ap, append_assoc, add-one, arith, length-append, length-drop, take-append-drop, length-take-le, take_at, drop_at, drop-drop, take-take}
use Rattle.std.proofs.Math.Seq.{drop-append-add}
use Rattle.std.proofs.lemmas.List.{take-append-le, set_split}
use Rattle.bits.specs.Texts.{in_front, pasted}

-- nothing
pub pasted_none : (at : ℕ) (m : List ℕ) → pasted [] at m ≡ m
pasted_none at m = take-append-drop at m

module _ (at : ℕ) (m : List ℕ) (within : at ≤ length m) where
  front : length (take at m) ≡ at
  front = length-take-le at m within

  pub pasted-length : (t : List ℕ) → at + length t ≤ length m → length (pasted t at m) ≡ length m
  pasted-length t h = simp (length-append, length-drop, front) (omega arith)

  -- what is left behind
  pub pasted-rest : (t : List ℕ) (n : ℕ) → length t ≡ n → drop (at + n) (pasted t at m) ≡ drop (at + n) m
  pasted-rest t n e =
      ap (λ (x : ℕ). drop (x + n) (pasted t at m)) (sym front)
      ∙ drop-append-add (take at m) (in_front t (drop at m)) n
      ∙ drop_at t (drop (length t) (drop at m)) n e
      ∙ drop-drop (length t) at m
      ∙ ap (λ (x : ℕ). drop (at + x) m) e

  pub pasted-front : (t : List ℕ) (n : ℕ) → length t ≡ n → take (at + n) (pasted t at m) ≡ take at m ++ t
  pasted-front t n e =
      let rest = drop (length t) (drop at m) in
      ap (take (at + n)) (sym (append_assoc (take at m) t rest))
      ∙ take_at (take at m ++ t) rest (at + n) (rw (length-append, front) (omega arith))

  -- a text behind a text
  pub pasted-more : (t u : List ℕ) (n : ℕ) → length t ≡ n
      → pasted u (at + n) (pasted t at m) ≡ pasted (t ++ u) at m
  pasted-more t u n e =
      let same : at + n + length u ≡ at + (n + length u) = omega arith in
      rw (pasted-front t n e, pasted-rest t n e, drop-drop, drop-drop, length-append, e, append_assoc, append_assoc)
      (ap (λ (x : ℕ). take at m ++ (t ++ (u ++ drop x m))) same)

-- a text before a text
pub pasted-before : (t u m : List ℕ) (at n : ℕ) → length t ≡ n → at + n + length u ≤ length m
    → pasted t at (pasted u (at + n) m) ≡ pasted (t ++ u) at m
pasted-before t u m at n e h =
    let front = take (at + n) m in
    let size : length front ≡ at + n = length-take-le (at + n) m (omega arith) in
    let rest = in_front u (drop (at + n) m) in
    let first : take at (front ++ rest) ≡ take at m =
    take-append-le at front rest (omega arith) ∙ take-take at (at + n) m (omega arith) in
    let behind : drop (length t) (drop at (front ++ rest)) ≡ rest =
    drop-drop (length t) at (front ++ rest) ∙ drop_at front rest (at + length t) (omega arith) in
    let same : at + n + length u ≡ at + (n + length u) = omega arith in
    rw (first, behind, append_assoc, length-append, drop-drop, drop-drop, e, same)

-- one store
pub pasted_one : (m : List ℕ) (at v : ℕ) → at < length m → set m at v ≡ pasted (v ∷ []) at m
pasted_one m at v h = set_split m at v h ∙ rw (drop-drop, add-one)

-- a text behind one that is there already
pub pasted-behind : (s t m : List ℕ) (at : ℕ) → length s ≡ at → take at m ≡ s → pasted t at m ≡ in_front (s ++ t) m
pasted-behind s t m at e f = rw (f, drop-drop, append_assoc, length-append, e)

-- a text whose end is there already
pub front_there : (s u m : List ℕ) (n : ℕ) → length s ≡ n → (rest : List ℕ) → drop n m ≡ u ++ rest
    → in_front (s ++ u) m ≡ in_front s m
front_there s u m n e rest f =
    let behind : drop (n + length u) m ≡ rest =
    sym (drop-drop (length u) n m) ∙ ap (drop (length u)) f ∙ drop_at u rest (length u) refl in
    rw (append_assoc, length-append, e, behind, f)
