-- What is taken, by the size of its number, at the end, and by the kind that is due.
use Rattle.std.specs.Prelude.{◌≡◌, Bool, true, false, None, Ok, Err, List, ◌-◌, eqb, take, drop}
use Rattle.std.proofs.Common.{sym, ap, arith}
use Prim.Native.Nat.{ℕ, suc, ◌+◌, ◌*◌, ◌^◌, ◌≤◌, ◌<◌}
use Rattle.std.proofs.Math.Numerals.{sub-one}
use borrow.Author.Tests.{lt-ltb, le-ltb}
use Rattle.std.proofs.Math.ListN.{length}
use Rattle.std.proofs.Math.Pow.{pow_mono}
use Rattle.bits.specs.Strings.{Bits}
use Rattle.bits.specs.Texts.{bits_of_text}
use Rattle.bits.proofs.Memory.{lent_part}
use Rattle.bits.proofs.Pieces.{drop-map}
use Rattle.families.specs.Families.{ended}
use Rattle.families.specs.Words.{word_of, first_number}
use Rattle.families.proofs.Measured.{word-length}
use Rattle.keys.specs.Size.{limit}
use Rattle.keys.specs.Places.{left_at}
use Rattle.scan.specs.declared.Kind.{Kind}
use Rattle.scan.specs.declared.Place.{Place}
use Rattle.refusals.specs.declared.Refusal.TheVariants.{OutOfRange}
use Rattle.scan.specs.Characters.{bits_read}
use Rattle.scan.specs.Taking.{is_turned, took, taken_from, taken_at}

-- the same by the number's size: m digits follow its leading one
module _ (z : Bool) (s : Bits) (h : ended z s ≡ false) (m : ℕ) (low : 2 ^ m ≤ first_number z s) where
  abbrev a : ℕ
  a = first_number z s

  pub taken_many : 32 ≤ m → Err OutOfRange ≡ taken_from z s
  unfolding taken_from
  taken_many l = rw (h, lt-ltb limit a (omega (arith, pow_mono {i = 32} {j = m} l)))

  pub taken_few : a < 2 ^ suc m → m < 32 → took a (2 * m + 1) ≡ taken_from z s
  unfolding taken_from
  taken_few high l =
      let size : length (word_of a) ≡ 2 * m + 1 = omega (arith, word-length (suc m) a (rw sub-one low) high) in
      rw (h, le-ltb limit a (omega (arith, pow_mono {i = suc m} {j = 32} (omega arith))), size)

pub taken-ended : (z : Bool) (s : Bits) → ended z s ≡ true → taken_from z s ≡ Ok None
unfolding taken_from
taken-ended z s h = rw h

-- what is taken at a place, by the kind that is due there
pub taken_at_lem : (s : Bits) (p : Place) (k : Kind) → p.due ≡ k
    → taken_from (is_turned k) (left_at s p.used (is_turned k)) ≡ taken_at s p
taken_at_lem s p k e = ap (λ (x : Kind). taken_from (is_turned x) (left_at s p.used (is_turned x))) (sym e)

-- at a place that is what is taken from the text behind the characters used, as it is lent
pub taken-lent : (k : List ℕ) (p : Place) (d : Kind) (at : ℕ) → p.due ≡ d → drop at k ≡ drop p.used k
    → taken_from (is_turned d) (bits_read (take (length k - at) (drop at k)) (is_turned d))
    ≡ taken_at (bits_of_text k) p
taken-lent k p d at e h = rw (lent_part, h, ← drop-map (λ c. eqb c 49) p.used k) (taken_at_lem (bits_of_text k) p d e)
