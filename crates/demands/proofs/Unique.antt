-- Any two outcomes that the contract of a call allows are identical, result and memory. A contract says that the
-- result's number and values, and the memory at exit, are the call's outcome; so one outcome has to stand for one
-- result. (The contract of a function without refusals is an equation for its result already; the earlier of two, which
-- gives no number, has its own theorem beside its contract, `compare`, file Earlier.)
use Rattle.std.specs.Prelude.{◌≡◌, refl, Bool, List, ℕ, Option, Some, None, Result}
use Rattle.std.proofs.Common.{sym, ◌∙◌, ap}
use Rattle.outcomes.specs.Outcomes.{Outcome}
use Rattle.outcomes.specs.Laws.{Determined}
use Rattle.outcomes.proofs.Laws.{determined}
use Rattle.outcomes.specs.Writing.{write_text, write_column}
use Rattle.outcomes.specs.Reading.{read_text, read_column, reduce}
use Rattle.outcomes.specs.Packing.{column_to_text, text_to_column}
use Rattle.outcomes.specs.Comparing.{compare_text}
use Rattle.outcomes.specs.Cutting.{cut_text}
use Rattle.outcomes.specs.Stepping.{start_text, step_text}
use Rattle.outcomes.specs.Stocking.{put_in, take_out, find, list_from, stock_call}
use Rattle.tables.specs.Layouts.{stock_rows}
use Rattle.refusals.specs.Answers.{answered, terms_as, terms_in, one_as, one_in, none_as, none_in}
use Rattle.refusals.proofs.Told.{told_by, answered-told}
use Rattle.refusals.specs.declared.Refusal.{Refusal}
use Rattle.reduce.proofs.Told.{reduced_told}
use Rattle.write.specs.Answers.{written_as, written_in}
use Rattle.write.proofs.Told.{written-told}
use Rattle.compare.specs.Answers.{standing_as, standing_in}
use Rattle.compare.proofs.Told.{compared-told}
use Rattle.step.specs.declared.Stepped.{Stepped}
use Rattle.step.specs.Answers.{place_as, place_in, quotient_as, quotient_in, stepped_as}
use Rattle.step.proofs.Told.{place_told, started-told, met_told}
use Rattle.tables.specs.declared.Stocked.{Stocked}
use Rattle.seek.specs.Answers.{stocked_as, stocked_in}
use Rattle.lookup.specs.Answers.{found_as, found_in, listed_as, listed_in}
use Rattle.lookup.specs.declared.Found.{Found}
use Rattle.lookup.specs.declared.Listed as lookup
use Rattle.fields.specs.declared.Field.{Field}
use Rattle.list.specs.declared.Listed.{Listed}
use Rattle.list.specs.Listing.{Lists}

-- an outcome settles the result, where the number and the values tell it
settled : {X : Type 0} (v : ℕ) (values : X → List ℕ) (back : List ℕ → X)
    → ((r : Result X Refusal) → told_by v values back (answered v values r) ≡ r)
    → (o : Outcome) → Determined (answered v values) o
settled v values back told o = determined (answered v values) (told_by v values back) told o

pub one-told : (r : Result ℕ Refusal) → told_by 1 one_as one_in (answered 1 one_as r) ≡ r
one-told = answered-told 1 one_as one_in (λ n. refl)

pub none-told : (r : Result (Unit {0}) Refusal) → told_by 0 none_as none_in (answered 0 none_as r) ≡ r
none-told = answered-told 0 none_as none_in (λ u. refl)

pub stocked-told : (r : Result Stocked Refusal) → told_by 3 stocked_as stocked_in (answered 3 stocked_as r) ≡ r
stocked-told = answered-told 3 stocked_as stocked_in (λ s. refl)

pub found-told : (r : Result Found Refusal) → told_by 2 found_as found_in (answered 2 found_as r) ≡ r
found-told = answered-told 2 found_as found_in (λ f. refl)

listed_back : (o : Option lookup.Listed) → listed_in (listed_as o) ≡ o
listed_back (Some l) = refl
listed_back None = refl

pub listed-told : (r : Result (Option lookup.Listed) Refusal) → told_by 5 listed_as listed_in (answered 5 listed_as r) ≡ r
listed-told = answered-told 5 listed_as listed_in listed_back

pub write_text_unique : (p q : ℕ) (m : List ℕ) → Determined (answered 2 written_as) (write_text p q m)
write_text_unique p q m = settled 2 written_as written_in written-told (write_text p q m)

pub write_column_unique : (p q : ℕ) (m : List ℕ) → Determined (answered 2 written_as) (write_column p q m)
write_column_unique p q m = settled 2 written_as written_in written-told (write_column p q m)

pub read_text_unique : (k : List ℕ) → Determined (answered 2 terms_as) (read_text k)
read_text_unique k = settled 2 terms_as terms_in reduced_told (read_text k)

pub read_column_unique : (c : List ℕ) → Determined (answered 2 terms_as) (read_column c)
read_column_unique c = settled 2 terms_as terms_in reduced_told (read_column c)

pub column_to_text_unique : (c m : List ℕ) → Determined (answered 1 one_as) (column_to_text c m)
column_to_text_unique c m = settled 1 one_as one_in one-told (column_to_text c m)

pub text_to_column_unique : (k m : List ℕ) → Determined (answered 0 none_as) (text_to_column k m)
text_to_column_unique k m = settled 0 none_as none_in none-told (text_to_column k m)

pub lowest_terms_unique : (p q : ℕ) → Determined (answered 2 terms_as) (reduce p q)
lowest_terms_unique p q = settled 2 terms_as terms_in reduced_told (reduce p q)

pub compare_unique : (j k : List ℕ) → Determined (answered 1 standing_as) (compare_text j k)
compare_unique j k = settled 1 standing_as standing_in compared-told (compare_text j k)

pub cut_unique : (k m : List ℕ) (n : ℕ) → Determined (answered 1 one_as) (cut_text k n m)
cut_unique k m n = settled 1 one_as one_in one-told (cut_text k n m)

pub start_unique : (k : List ℕ) → Determined (answered 2 place_as) (start_text k)
start_unique k = settled 2 place_as place_in started-told (start_text k)

-- what a step leaves is the place handed back, as numbers, which tell the place
pub step_unique : (k : List ℕ) (used : ℕ) (z : Bool) (r s : Stepped) → stepped_as r ≡ step_text k used z
    → stepped_as s ≡ step_text k used z → r ≡ s
step_unique k used z r s e f =
    let one = settled 2 quotient_as quotient_in met_told (step_text k used z) in
    let (met, numbers) = one r.met s.met (place_as r.place) (place_as s.place) e f in
    let place : r.place ≡ s.place = sym (place_told r.place) ∙ ap place_in numbers ∙ place_told s.place in
    λ i. record { met = met i; place = place i }

-- the calls of the stock table
pub put_in_unique : (p q n used : ℕ) (m : List ℕ)
    → Determined (answered 3 stocked_as) (stock_call stock_rows (put_in p q n) used m)
put_in_unique p q n used m =
    settled 3 stocked_as stocked_in stocked-told (stock_call stock_rows (put_in p q n) used m)

pub take_out_unique : (p q n used : ℕ) (m : List ℕ)
    → Determined (answered 3 stocked_as) (stock_call stock_rows (take_out p q n) used m)
take_out_unique p q n used m =
    settled 3 stocked_as stocked_in stocked-told (stock_call stock_rows (take_out p q n) used m)

pub find_unique : (p q used : ℕ) (m : List ℕ)
    → Determined (answered 2 found_as) (stock_call stock_rows (find p q) used m)
find_unique p q used m =
    settled 2 found_as found_in found-told (stock_call stock_rows (find p q) used m)

pub list_from_unique : (p q used : ℕ) (m : List ℕ)
    → Determined (answered 5 listed_as) (stock_call stock_rows (list_from p q) used m)
list_from_unique p q used m =
    settled 5 listed_as listed_in listed-told (stock_call stock_rows (list_from p q) used m)

-- the lister's calls, at a stretch and at the end of the input
pub list_unique : (s : Field) (input m : List ℕ) {r t : Listed} {e f : List ℕ} → Lists s input m r e
    → Lists s input m t f → (r ≡ t) × (e ≡ f)
list_unique s input m a b = (a.answer ∙ sym b.answer, a.memory ∙ sym b.memory)
