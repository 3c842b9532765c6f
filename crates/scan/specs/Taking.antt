-- What reading one word from a place gives, by the published form: the quotient and the characters of its word, that
-- the quotient is above the limit, or that the key ended.
use Rattle.std.specs.Prelude.{Bool, true, false, cond, ℕ, ltb, length, Option, Some, None, Result, Ok, Err}
use Rattle.bits.specs.Strings.{Bits}
use Rattle.families.specs.Families.{ended}
use Rattle.families.specs.Words.{word_of, first_number}
use Rattle.keys.specs.Size.{limit}
use Rattle.keys.specs.Places.{left_at}
use Rattle.refusals.specs.declared.Refusal.{Refusal}
use Rattle.refusals.specs.declared.Refusal.TheVariants.{OutOfRange}
use Rattle.scan.specs.declared.Kind.{Kind}
use Rattle.scan.specs.declared.Kind.TheVariants.{Word, Turned}
use Rattle.scan.specs.declared.Place.{Place}
use Rattle.scan.specs.declared.Quotient.{Quotient}

-- whether a turned word is due
abbrev pub is_turned : Kind → Bool
is_turned Word = false
is_turned Turned = true

-- what is taken: a quotient, the end, or a refusal
abbrev pub Taken : Type 0
Taken = Result (Option Quotient) Refusal

-- the quotient a, whose word has n characters
abbrev pub took : ℕ → ℕ → Taken
took a n = Ok (Some (record { value = a; characters = n }))

-- the word with which s, going on with z, begins
unfoldable pub taken_from : Bool → Bits → Taken
taken_from z s =
    let a = first_number z s in
    cond (ended z s) (Ok None) (cond (ltb limit a) (Err OutOfRange) (took a (length (word_of a))))

abbrev pub taken_at : Bits → Place → Taken
taken_at s p = taken_from (is_turned p.due) (left_at s p.used (is_turned p.due))
