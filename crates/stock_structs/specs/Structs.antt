-- The number and the values that each struct of the stock table holds; and that these tell the struct.
use Rattle.std.specs.Prelude.{◌≡◌, refl, [], ◌∷◌, eqb, get_or}
use Rattle.bits.specs.Binary.{digit_of}
use Rattle.bits.proofs.Pieces.{bit_digit}
use Rattle.outcomes.specs.Outcomes.{Answer}
use Rattle.stock_structs.specs.declared.Stocked.{Stocked}
use Rattle.stock_structs.specs.declared.Found.{Found}
use Rattle.stock_structs.specs.declared.Listed.{Listed}

abbrev pub of_stocked : Stocked → Answer
of_stocked r = record { refusal = r.refusal; values = r.used ∷ r.row ∷ r.quantity ∷ [] }

abbrev pub stocked_in : Answer → Stocked
stocked_in a =
    let v = a.values in
    record { refusal = a.refusal; quantity = get_or v 2 0; used = get_or v 0 0; row = get_or v 1 0 }

pub stocked-told : (r : Stocked) → stocked_in (of_stocked r) ≡ r
stocked-told r = refl

abbrev pub of_found : Found → Answer
of_found r = record { refusal = r.refusal; values = r.row ∷ r.quantity ∷ [] }

abbrev pub found_in : Answer → Found
found_in a = let v = a.values in record { refusal = a.refusal; quantity = get_or v 1 0; row = get_or v 0 0 }

pub found-told : (r : Found) → found_in (of_found r) ≡ r
found-told r = refl

abbrev pub of_listed : Listed → Answer
of_listed r =
    record {
      refusal = r.refusal;
      values = digit_of r.found ∷ r.row ∷ r.numerator ∷ r.denominator ∷ r.quantity ∷ [];
    }

abbrev pub listed_in : Answer → Listed
listed_in a =
    let v = a.values in
    record {
      refusal = a.refusal;
      numerator = get_or v 2 0;
      denominator = get_or v 3 0;
      quantity = get_or v 4 0;
      row = get_or v 1 0;
      found = eqb (get_or v 0 0) 1;
    }

pub listed-told : (r : Listed) → listed_in (of_listed r) ≡ r
listed-told r = λ i. record {
  refusal = r.refusal;
  numerator = r.numerator;
  denominator = r.denominator;
  quantity = r.quantity;
  row = r.row;
  found = bit_digit r.found i;
}
