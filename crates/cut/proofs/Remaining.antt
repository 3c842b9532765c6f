-- How many characters are kept of the first n: while the last one isn't 1 it is dropped, unless it's the only one.
use Rattle.std.specs.Prelude.{◌≡◌, true, List, [], ◌∷◌, ◌++◌, ℕ, suc, ◌-◌, ◌≤◌, ◌<◌, eqb, length, get_or, take}
use Rattle.std.proofs.Common.{sym, ◌∙◌, inr, arith, eq-eqb, ne_eqb, length-take, length-take-le, take_all, take-suc}
use Rattle.std.proofs.lemmas.List.{length-map}
use Rattle.std.proofs.Math.ListN.{get_or-map}
use Rattle.bits.specs.Strings.{Bits, closed}
use Rattle.bits.specs.Texts.{bits_of_text}
use Rattle.bits.proofs.Trim.{closed_short, closed-zero}
use Rattle.keys.specs.Keys.{cut_to}
use Rattle.keys.proofs.Back.{closed-canonical}

-- m characters of k are left, and they are cut to what the first n are cut to
pub record Left (k : List ℕ) (n m : ℕ) : Type 0 where
  pub within : m ≤ length k
  pub same : cut_to m (bits_of_text k) ≡ cut_to n (bits_of_text k)

size : (k : List ℕ) → length (bits_of_text k) ≡ length k
size k = length-map k (λ c. eqb c 49)

pub left-first : (k : List ℕ) (n m : ℕ) → m ≡ n → n ≤ length k → Left k n m
left-first k n m e h = record { within = omega arith; same = rw e }

pub left-whole : (k : List ℕ) (n m : ℕ) → m ≡ length k → length k ≤ n → Left k n m
left-whole k n m e h =
    let all : (i : ℕ) → length k ≤ i → take i (bits_of_text k) ≡ bits_of_text k =
    λ i l. take_all i (bits_of_text k) (omega (arith, size k)) in
    record { within = omega arith; same = rw (all m (omega arith), all n h) }

module _ {k : List ℕ} {n m : ℕ} (left : Left k n m) where
  abbrev bits : Bits
  bits = bits_of_text k

  -- nothing more is dropped
  kept-all : closed (take m bits) ≡ take m bits → m ≡ length (cut_to n bits)
  kept-all e = rw (← left.same, e) (sym (length-take-le m bits (omega (arith, size k))))

  pub kept_few : m ≤ 1 → m ≡ length (cut_to n bits)
  kept_few h = kept-all (closed_short (take m bits) (rw length-take (omega arith)))

  module _ (some : 1 < m) (d : ℕ) where
    -- the last character left stands behind the others
    last : take m bits ≡ take (m - 1) bits ++ (eqb (get_or k (m - 1) d) 49 ∷ [])
    last =
        let whole : suc (m - 1) ≡ m = omega arith in
        rw (whole, get_or-map (λ c. eqb c 49) k (m - 1) d)
        at (take-suc bits (m - 1) (eqb d 49) (omega (arith, size k)))

    pub kept_one : get_or k (m - 1) d ≡ 49 → m ≡ length (cut_to n bits)
    kept_one e =
        let ends : take m bits ≡ take (m - 1) bits ++ (true ∷ []) = rw (eq-eqb (get_or k (m - 1) d) 49 e) at last in
        kept-all (closed-canonical (take m bits) (inr (take (m - 1) bits, ends)))

    pub left-less : (get_or k (m - 1) d ≡ 49 → ⊥) → Left k n (m - 1)
    left-less z =
        let rest : 1 ≤ length (take (m - 1) bits) = rw length-take (omega (arith, size k)) in
        let dropped : cut_to m bits ≡ cut_to (m - 1) bits =
        rw (last, ne_eqb (get_or k (m - 1) d) 49 z) (closed-zero (take (m - 1) bits) rest) in
        record { within = omega arith; same = sym dropped ∙ left.same }
