-- A text copied in groups to the front of memory. A group may begin before the place where the one before it ended.
use Rattle.std.specs.Prelude.{◌≡◌, refl, List, [], ◌∷◌, ◌++◌, ℕ, zero, suc, ◌+◌, ◌-◌, ◌≤◌, ◌<◌}
use Rattle.std.specs.Prelude.{length, get_or, take, drop}
use Rattle.std.proofs.Common.{sym, ◌∙◌, ap, append_assoc, arith, length-append, length-drop, length-take-le}
use Rattle.std.proofs.Common.{drop-cons, take-take, drop-drop, take-add}
use Rattle.std.proofs.lemmas.List.Edits.{sets}
use Rattle.std.proofs.lemmas.List.{take-append-le}
use Rattle.std.proofs.Math.Seq.{drop-append-add}
use Rattle.bits.specs.Texts.{in_front}
use Rattle.bits.proofs.Memory.{lent_part, lent_back, stored-front}

-- n characters from a place on, as they are read one after the other
abbrev chars_at : List ℕ → ℕ → ℕ → List ℕ
chars_at k i zero = []
chars_at k i (suc n) = get_or k i 0 ∷ chars_at k (suc i) n

chars_at_lem : (k : List ℕ) (i n : ℕ) → i + n ≤ length k → chars_at k i n ≡ take n (drop i k)
chars_at_lem k i zero h = refl
chars_at_lem k i (suc n) h =
    let within : i < length k = omega arith in
    rw (drop-cons k i 0 within) (ap {B = List ℕ} (λ r. get_or k i 0 ∷ r) (chars_at_lem k (suc i) n (omega arith)))

-- the first n characters, read and then stored one after the other
pub chars_stored : (k m : List ℕ) (n : ℕ) → n ≤ length k → n ≤ length m
    → sets m 0 (chars_at k 0 n) ≡ in_front (take n k) m
chars_stored k m n there room =
    ap (sets m 0) (chars_at_lem k 0 n (omega arith)) ∙ stored-front (take n k) m (rw (length-take-le n k there) room)

-- what is lent from a place on is as long as what is left
pub lent_size : (k : List ℕ) (at : ℕ) → length (take (length k - at) (drop at k)) ≡ length k - at
lent_size k at = rw (lent_part k at, length-drop)

-- memory with the first i characters of k at its front
abbrev pub Copied : List ℕ → List ℕ → List ℕ → ℕ → Type 0
Copied k m l i = (length l ≡ length m) × (l ≡ in_front (take i k) m)

module _ (k m : List ℕ) (i at n : ℕ) (begun : at ≤ i) (reached : i ≤ at + n) (there : at + n ≤ length k) where
  abbrev before : List ℕ
  before = in_front (take i k) m

  size : length (take i k) ≡ i
  size = length-take-le i k (omega arith)

  kept-front : take at before ≡ take at k
  kept-front = take-append-le at (take i k) (drop (length (take i k)) m) (rw size begun) ∙ take-take at i k begun

  kept_back : drop (at + n) before ≡ drop (at + n) m
  kept_back =
      let more = at + n - i in
      let whole : length (take i k) + more ≡ at + n = omega (arith, size) in
      ap (λ (z : ℕ). drop z before) (sym whole)
      ∙ drop-append-add (take i k) (drop (length (take i k)) m) more
      ∙ drop-drop more (length (take i k)) m
      ∙ ap (λ (z : ℕ). drop z m) whole

  -- the group behind the first at characters
  group : take at before ++ in_front (take n (drop at k)) (drop at before) ≡ in_front (take (at + n) k) m
  group =
      let long : n ≤ length (drop at k) = rw length-drop (omega arith) in
      rw (
        length-take-le n (drop at k) long,
        drop-drop n at before,
        kept-front,
        kept_back,
        length-take-le (at + n) k there,
        take-add at n k,
        append_assoc,
      )

  -- as it is where the part that was lent has come back
  pub copied-more : {l part : List ℕ} → Copied k m l i → at + n ≤ length m
      → part ≡ in_front (take n (take (length k - at) (drop at k))) (take (length l - at) (drop at l))
      → Copied k m (take at l ++ (part ++ drop (length l - at) (drop at l))) (at + n)
  copied-more {l} {part} so room e =
      let t = take n (take (length k - at) (drop at k)) in
      let now : take at l ++ (part ++ drop (length l - at) (drop at l)) ≡ in_front (take (at + n) k) m =
      lent_back t l at e ∙ rw (lent_part k at, so.1) group in
      let same : length (in_front (take (at + n) k) m) ≡ length m =
      rw (length-append, length-take-le (at + n) k there, length-drop) (omega arith) in
      (ap length now ∙ same, now)

-- the last group, of g characters: it ends at the last one, and may begin before the place that was reached
pub copied-last : (k m : List ℕ) (i g n : ℕ) → g ≤ n → n ≤ i + g → i ≤ n → n ≤ length k → n ≤ length m
    → {l part : List ℕ} → Copied k m l i
    → part
    ≡ in_front (take g (take (length k - (n - g)) (drop (n - g) k))) (take (length l - (n - g)) (drop (n - g) l))
    → take (n - g) l ++ (part ++ drop (length l - (n - g)) (drop (n - g) l)) ≡ in_front (take n k) m
copied-last k m i g n fits reached within there room so e =
    let whole : n - g + g ≡ n = omega arith in
    let more = copied-more k m i (n - g) g (omega arith) (omega arith) (omega arith) so (omega arith) e in
    rw whole at more.1
