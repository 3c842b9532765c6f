-- A struct's number and values tell the struct.
use Rattle.std.specs.Prelude.{◌≡◌, refl, List, ℕ, eqb, get_or}
use Rattle.bits.proofs.Pieces.{bit_digit}
use Rattle.outcomes.specs.Outcomes.{Outcome, Answer}
use Rattle.lcf.specs.declared.Written.{Written}
use Rattle.lcf.specs.declared.Ratio.{Ratio}
use Rattle.lcf.specs.declared.Text.{Text}
use Rattle.lcf.specs.declared.Column.{Column}
use Rattle.lcf.specs.declared.Standing.{Standing}
use Rattle.lcf.specs.declared.Place.{Place}
use Rattle.lcf.specs.declared.Started.{Started}
use Rattle.lcf.specs.declared.Stepped.{Stepped}
use Rattle.lcf.specs.Structs.{of_written, of_ratio, of_text, of_column, of_standing, of_place, of_started, of_stepped}

abbrev pub written_in : Answer → Written
written_in a = record { refusal = a.refusal; quotients = get_or a.values 1 0; characters = get_or a.values 0 0 }

pub written-told : (r : Written) → written_in (of_written r) ≡ r
written-told r = refl

abbrev pub ratio_in : Answer → Ratio
ratio_in a = record { refusal = a.refusal; numerator = get_or a.values 0 0; denominator = get_or a.values 1 0 }

pub ratio-told : (r : Ratio) → ratio_in (of_ratio r) ≡ r
ratio-told r = refl

abbrev pub text_in : Answer → Text
text_in a = record { refusal = a.refusal; characters = get_or a.values 0 0 }

pub text-told : (r : Text) → text_in (of_text r) ≡ r
text-told r = refl

abbrev pub column_in : Answer → Column
column_in a = record { refusal = a.refusal }

pub column-told : (r : Column) → column_in (of_column r) ≡ r
column-told r = refl

abbrev pub standing_in : Answer → Standing
standing_in a = record { refusal = a.refusal; standing = get_or a.values 0 0 }

pub standing-told : (r : Standing) → standing_in (of_standing r) ≡ r
standing-told r = refl

abbrev place_in : List ℕ → Place
place_in l = record { used = get_or l 0 0; turned = eqb (get_or l 1 0) 1 }

place_told : (p : Place) → place_in (of_place p) ≡ p
place_told p = λ i. record { used = p.used; turned = bit_digit p.turned i }

abbrev pub started_in : Answer → Started
started_in a = record { refusal = a.refusal; place = place_in a.values }

pub started-told : (r : Started) → started_in (of_started r) ≡ r
started-told r = λ i. record { refusal = r.refusal; place = place_told r.place i }

abbrev pub stepped_in : Outcome → Stepped
stepped_in o =
    record {
      refusal = o.refusal;
      quotient = get_or o.values 1 0;
      found = eqb (get_or o.values 0 0) 1;
      place = place_in o.memory;
    }

pub stepped-told : (r : Stepped) → stepped_in (of_stepped r) ≡ r
stepped-told r =
    λ i. record {
      refusal = r.refusal;
      quotient = r.quotient;
      found = bit_digit r.found i;
      place = place_told r.place i;
    }
