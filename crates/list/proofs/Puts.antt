-- Text put out at the front of lent memory, and more text behind it.
use Rattle.std.specs.Prelude.{◌≡◌, List, [], ◌∷◌, ◌++◌, ℕ, ◌+◌, ◌-◌, ◌≤◌, ◌<◌, length, take, drop, set}
use Rattle.std.proofs.Common.{sym, ◌∙◌, add-one, refl, arith, append_assoc}
use Rattle.std.proofs.Common.{length-append, length-drop, length-take-le, take-append-drop, drop-drop}
use Rattle.std.proofs.Math.Seq.{drop-append-le}
use Rattle.std.proofs.lemmas.List.{set_split}
use Rattle.bits.specs.Texts.{in_front}
use Rattle.bits.proofs.Memory.{front-more, lent_back}
use Rattle.list.specs.Puts.{Puts}

module _ {t m e : List ℕ} {r : ℕ} (p : Puts t m r e) where
  behind-text : (u : List ℕ) → take r e ++ in_front u (drop r e) ≡ in_front (t ++ u) m
  behind-text u = rw p.memory (front-more t u m r (sym p.count))

  -- memory has as many bytes as it had
  pub puts-length : r ≤ length m → length e ≡ length m
  puts-length h = rw (p.memory, length-append, length-drop) (omega (arith, p.count))

  -- a call put u into the rest of the memory, from r on
  pub puts-text : {size : ℕ} → length e ≡ size → (u part : List ℕ) (n : ℕ)
      → Puts u (take (size - r) (drop r e)) n part
      → Puts (t ++ u) m (r + n) (take r e ++ (part ++ drop (size - r) (drop r e)))
  puts-text same u part n q = record {
    count = rw (p.count, q.count, length-append);
    memory = rw (← same) (lent_back u e r (rw (← same) at q.memory) ∙ behind-text u);
  }

  -- one byte stored behind
  pub puts_mark : (c : ℕ) → r < length e → Puts (t ++ (c ∷ [])) m (r + 1) (set e r c)
  puts_mark c h = record {
    count = rw (p.count, length-append);
    memory = set_split e r c h ∙ rw (← add-one r, ← drop-drop 1 r e) (behind-text (c ∷ []));
  }

-- t is put out at the front of m's first size bytes, which come back in front of the rest
pub puts-first : {t m e : List ℕ} {r : ℕ} (size : ℕ) → size ≤ length m → length t ≤ size
    → Puts t (take size m) r e → Puts t m r (e ++ drop size m)
puts-first {t = t} {m = m} size h l p = record {
  count = p.count;
  memory =
      let first : length (take size m) ≡ size = length-take-le size m h in
      let rest = drop-append-le (length t) (take size m) (drop size m) (omega arith) in
      rw (p.memory, append_assoc, ← rest, take-append-drop) refl;
}

-- the same text, told otherwise
pub puts_as : {t u m e : List ℕ} {r : ℕ} → t ≡ u → Puts t m r e → Puts u m r e
puts_as e p = rw e at p
