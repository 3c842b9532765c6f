-- A text cut into groups of eight bytes, and such a group read as a number.
use Rattle.std.specs.Prelude.{◌≡◌, refl, List, [], ◌∷◌, ℕ, zero, suc, ◌+◌, ◌*◌, ◌≤◌, ◌<◌, length, get_or, take, drop}
use Rattle.std.specs.Simd.{first_chunks}
use Rattle.std.specs.Int.{w64, from_le_bytes}
use Rattle.std.proofs.Common.{sym, ◌∙◌, arith, length-drop, length-take-le, drop-drop}
use Rattle.std.proofs.lemmas.Nat.{le_bytes_8}
use Rattle.std.proofs.lemmas.List.{get_or-drop}
use Rattle.bits.specs.Texts.{Bytes}
use Rattle.blocks.specs.Bytewise.{low_bytes}
use Rattle.blocks.proofs.Bytewise.{eight-bytes}

-- group number i
abbrev pub group_at : List ℕ → ℕ → List ℕ
group_at k i = take 8 (drop (8 * i) k)

bytes-take : (n : ℕ) (k : List ℕ) → Bytes k → Bytes (take n k)
bytes-take zero k small i = omega arith
bytes-take (suc n) [] small i = omega arith
bytes-take (suc n) (a ∷ k) small zero = small 0
bytes-take (suc n) (a ∷ k) small (suc i) = bytes-take n k (λ j. small (suc j)) i

-- eight bytes that were read are those of their number
pub eight-read : (t : List ℕ) {w : ℕ} → length t ≡ 8 → Bytes t → w ≡ from_le_bytes w64 t → low_bytes 8 w ≡ t
eight-read t {w} size small e = eight-bytes w ∙ le_bytes_8 t w size small e

module _ (k : List ℕ) (i : ℕ) where
  pub group-long : 8 * suc i ≤ length k → length (group_at k i) ≡ 8
  group-long h = length-take-le 8 (drop (8 * i) k) (rw length-drop (omega arith))

  pub group-small : Bytes k → Bytes (group_at k i)
  group-small small = bytes-take 8 (drop (8 * i) k) (λ j. rw get_or-drop (small (8 * i + j)))

pub chunk-at : (n : ℕ) (k : List ℕ) (i : ℕ) (d : List ℕ) → i < n → get_or (first_chunks 8 n k) i d ≡ group_at k i
chunk-at zero k i d h = absurd (omega arith)
chunk-at (suc n) k zero d h = refl
chunk-at (suc n) k (suc i) d h =
    let next : 8 + 8 * i ≡ 8 * suc i = omega arith in
    chunk-at n (drop 8 k) i d (omega arith) ∙ rw (drop-drop, next)

-- one number is of one group
pub same-eight : (s t : List ℕ) → length s ≡ 8 → length t ≡ 8 → Bytes s → Bytes t
    → from_le_bytes w64 s ≡ from_le_bytes w64 t → s ≡ t
same-eight s t l m small low e =
    sym (le_bytes_8 s (from_le_bytes w64 s) l small refl) ∙ le_bytes_8 t (from_le_bytes w64 s) m low e
