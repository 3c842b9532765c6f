-- How many characters are kept of the first n: up to the last 1, or the first alone where there is none.
use Rattle.std.specs.Prelude.{◌≡◌, refl, ◌≢◌, false, true, List, [], ◌∷◌, ◌++◌, None, Some}
use Rattle.std.specs.Prelude.{ℕ, suc, ◌+◌, ◌≤◌, ◌<◌, eqb, length, get_or, take, min}
use Rattle.std.proofs.Common.{sym, ◌∙◌, ap, inr, arith, eq-eqb, ne_eqb, length-take, length-take-le, take-suc}
use Rattle.std.proofs.Math.Decide.{dec_lt}
use Rattle.std.proofs.lemmas.List.{length-map, get_or-take, get_or_past, take_min}
use Rattle.std.proofs.Math.ListN.{get_or-map}
use Rattle.bits.specs.Strings.{Bits, Same, closed}
use Rattle.bits.specs.Texts.{bits_of_text}
use Rattle.bits.proofs.Pieces.{take-map}
use Rattle.bits.proofs.Trim.{closed_equal, closed_short}
use Rattle.keys.specs.Keys.{cut_to}
use Rattle.keys.proofs.Back.{closed-canonical}
use Rattle.cut.specs.Kept.{IsLastOne}

module _ (t : List ℕ) where
  abbrev bits : Bits
  bits = bits_of_text t

  size : length bits ≡ length t
  size = length-map t (λ c. eqb c 49)

  bit_at : (j : ℕ) → get_or bits j false ≡ eqb (get_or t j 0) 49
  bit_at j = get_or-map (λ c. eqb c 49) t j 0

  -- where no 1 stands from m on, what stands there is dropped
  module _ (m : ℕ) (rest : (j : ℕ) → m ≤ j → j < length t → get_or t j 0 ≢ 49) where
    zero_at : (j : ℕ) → m ≤ j → get_or bits j false ≡ false
    zero_at j h = by_size (dec_lt j (length t))
      where
        by_size : Dec (j < length t) → get_or bits j false ≡ false
        by_size (yes l) = bit_at j ∙ ne_eqb (get_or t j 0) 49 (rest j h l)
        by_size (no l) = get_or_past bits j false (omega (arith, size))

    same : Same false bits (take m bits)
    same j = by_size (dec_lt j m)
      where
        by_size : Dec (j < m) → get_or bits j false ≡ get_or (take m bits) j false
        by_size (yes l) = sym (get_or-take m bits j false l)
        by_size (no l) =
            zero_at j (omega arith) ∙ sym (get_or_past (take m bits) j false (omega (arith, length-take m bits)))

    dropped : 1 ≤ m → m ≤ length t → closed (take m bits) ≡ take m bits → m ≡ length (closed bits)
    dropped h l e =
        let long : length (take m bits) ≡ m = length-take-le m bits (omega (arith, size)) in
        let all : closed bits ≡ take m bits =
        closed_equal bits (take m bits) (omega (arith, size)) (omega arith) same ∙ e in
        rw all (sym long)

  kept_some : (i : ℕ) → IsLastOne t (Some i) → i + 1 ≡ length (closed bits)
  kept_some i (l, e, rest) =
      let ends : take (suc i) bits ≡ take i bits ++ (true ∷ []) =
      rw (bit_at i, eq-eqb (get_or t i 0) 49 e) at (take-suc bits i false (omega (arith, size))) in
      omega (
        arith,
        dropped (suc i) (λ j h. rest j (omega arith)) (omega arith) (omega arith)
            (closed-canonical (take (suc i) bits) (inr (take i bits, ends))),
      )

kept_none : (t : List ℕ) → IsLastOne t None → min (length t) 1 ≡ length (closed (bits_of_text t))
kept_none [] h = omega arith
kept_none (a ∷ t) h =
    omega (
      arith,
      dropped (a ∷ t) 1 (λ j l. h j) (omega arith) (omega arith)
          (closed_short (take 1 (bits_of_text (a ∷ t))) (omega (arith, length-take 1 (bits_of_text (a ∷ t))))),
    )

-- m characters of k are looked at
module _ (k : List ℕ) (n : ℕ) {m : ℕ} (e : m ≡ min n (length k)) where
  looked : cut_to n (bits_of_text k) ≡ closed (bits_of_text (take m k))
  looked = ap closed (take-map (λ c. eqb c 49) n k ∙ ap bits_of_text (sym (take_min n k))) ∙ rw e refl

  pub kept_one : {i : ℕ} → IsLastOne (take m k) (Some i) → i + 1 ≡ length (cut_to n (bits_of_text k))
  kept_one {i} h = rw looked (kept_some (take m k) i h)

  pub kept_first : IsLastOne (take m k) None → min m 1 ≡ length (cut_to n (bits_of_text k))
  kept_first h =
      let size : length (take m k) ≡ m = length-take-le m k (omega arith) in
      rw looked (rw size at (kept_none (take m k) h))
