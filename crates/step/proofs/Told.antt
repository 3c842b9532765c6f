-- The scope's number and values tell each answer of starting and stepping, and numbers tell a place.
use Rattle.std.specs.Prelude.{◌≡◌, refl, ℕ, Option, Some, None, Result}
use Rattle.bits.specs.Binary.{digit_of}
use Rattle.refusals.specs.Answers.{answered}
use Rattle.refusals.proofs.Told.{told_by, answered-told}
use Rattle.refusals.specs.declared.Refusal.{Refusal}
use Rattle.scan.specs.Taking.{is_turned}
use Rattle.scan.specs.declared.Kind.{Kind}
use Rattle.scan.specs.declared.Kind.TheVariants.{Word, Turned}
use Rattle.scan.specs.declared.Place.{Place}
use Rattle.step.specs.Answers.{place_as, kind_of, place_in, quotient_as, quotient_in}

kind_told : (k : Kind) → kind_of (digit_of (is_turned k)) ≡ k
kind_told Word = refl
kind_told Turned = refl

pub place_told : (p : Place) → place_in (place_as p) ≡ p
place_told p = λ i. record { used = p.used; due = kind_told p.due i }

pub started-told : (r : Result Place Refusal) → told_by 2 place_as place_in (answered 2 place_as r) ≡ r
started-told = answered-told 2 place_as place_in place_told

quotient_told : (o : Option ℕ) → quotient_in (quotient_as o) ≡ o
quotient_told (Some a) = refl
quotient_told None = refl

pub met_told : (r : Result (Option ℕ) Refusal) → told_by 2 quotient_as quotient_in (answered 2 quotient_as r) ≡ r
met_told = answered-told 2 quotient_as quotient_in quotient_told
