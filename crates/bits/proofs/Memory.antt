-- Lent memory: a part that is lent and comes back, and text at the front.
use Rattle.std.specs.Prelude.{◌≡◌, List, ◌++◌, ℕ, ◌+◌, ◌-◌, ◌≤◌, ◌<◌, length, get_or, take, drop, set}
use Rattle.std.proofs.Common.{append-nil, zero-add, add-one, arith, length-drop, drop_of_length-le, length-take-le, take_all}
use Rattle.std.proofs.lemmas.List.Edits.{sets, sets-eq}
use Rattle.std.proofs.Math.Seq.{paste-suc}
use Rattle.bits.specs.Texts.{in_front, pasted}
use Rattle.bits.proofs.Pasting.{pasted-more}

-- stores one after the other, from the front on
pub stored-front : (t m : List ℕ) → length t ≤ length m → sets m 0 t ≡ in_front t m
stored-front t m h = rw zero-add at (sets-eq t m 0 (omega arith))

-- one more character of k stored behind those before it
pub stored-more : (k m : List ℕ) (i d : ℕ) → i < length k → i < length m
    → set (in_front (take i k) m) i (get_or k i d) ≡ in_front (take (i + 1) k) m
stored-more k m i d h l =
    rw (length-take-le i k (omega arith), length-take-le (i + 1) k (omega arith), add-one)
    (rw (zero-add, zero-add) at (paste-suc m 0 k i d (rw zero-add l) h))

-- text behind text
pub front-more : (t u m : List ℕ) (n : ℕ) → length t ≡ n
    → pasted u n (in_front t m) ≡ in_front (t ++ u) m
front-more t u m n e = rw zero-add at (pasted-more 0 m (omega arith) t u n e)

-- memory from a place on, as it is lent
pub lent_part : (m : List ℕ) (at : ℕ) → take (length m - at) (drop at m) ≡ drop at m
lent_part m at = take_all (length m - at) (drop at m) (omega (arith, length-drop at m))

-- the whole, where that part has come back with a text at its front
pub lent_back : (t m : List ℕ) {part : List ℕ} (at : ℕ) → part ≡ in_front t (take (length m - at) (drop at m))
    → take at m ++ (part ++ drop (length m - at) (drop at m)) ≡ pasted t at m
lent_back t m at e =
    let h : length (drop at m) ≤ length m - at = omega (arith, length-drop at m) in
    rw (drop_of_length-le (drop at m) h, append-nil, e, lent_part)
