-- What each answer of taking a word tells of the string s, going on with z, that it was taken from.
use Rattle.std.specs.Prelude.{◌≡◌, refl, Bool, true, false, cond, ℕ, ◌≤◌, ◌<◌, ltb, length, Some, None, Ok, Err}
use Rattle.std.proofs.Common.{ltb-true, ltb-false}
use Rattle.bits.specs.Strings.{Bits}
use Rattle.families.specs.Families.{ended}
use Rattle.families.specs.Words.{word_of, first_number}
use Rattle.families.proofs.Complete.{word_complete}
use Rattle.families.proofs.Published.{words1983}
use Rattle.keys.specs.Size.{limit}
use Rattle.keys.proofs.Size.{word-fits}
use Rattle.keys.proofs.Reading.{word-positive}
use Rattle.refusals.specs.declared.Refusal.TheVariants.{OutOfRange}
use Rattle.scan.specs.declared.Quotient.{Quotient}
use Rattle.scan.specs.Taking.{Taken, took, taken_from}

-- the word is that of a, and has n characters
pub record Goes (z : Bool) (s : Bits) (a n : ℕ) : Type 0 where
  pub going : ended z s ≡ false
  pub first : first_number z s ≡ a
  pub positive : 1 ≤ a
  pub small : a ≤ limit
  pub count : n ≡ length (word_of a)

abbrev pub Told : Bool → Bits → Taken → Type 0
Told z s (Ok (Some q)) = Goes z s q.value q.characters
Told z s (Ok None) = ended z s ≡ true
Told z s (Err e) = (e ≡ OutOfRange) × (ended z s ≡ false) × (limit < first_number z s)

pub told : (z : Bool) (s : Bits) (t : Taken) → t ≡ taken_from z s → Told z s t
unfolding taken_from
told z s t e = rw e (by_tests (ended z s) (ltb limit a) refl refl)
  where
    a : ℕ
    a = first_number z s

    by_tests : (b o : Bool) → ended z s ≡ b → ltb limit a ≡ o
        → Told z s (cond b (Ok None) (cond o (Err OutOfRange) (took a (length (word_of a)))))
    by_tests true o p q = p
    by_tests false true p q = (refl, p, ltb-true limit a q)
    by_tests false false p q = record {
      going = p;
      first = refl;
      positive = (word_complete z s p).0;
      small = ltb-false limit a q;
      count = refl;
    }

-- the word of a quotient has at least one character, and at most 64
pub taken_size : (z : Bool) (s : Bits) (q : Quotient) → Ok (Some q) ≡ taken_from z s
    → (1 ≤ q.characters) × (q.characters ≤ 64)
taken_size z s q e =
    let g = told z s (Ok (Some q)) e in
    rw g.count (word-positive words1983 q.value g.positive, word-fits words1983 q.value g.positive g.small)
