-- The scope's number of each refusal, and the refusal of each number.
use Rattle.std.specs.Prelude.{[], ◌∷◌, ℕ, ◌-◌, get_or}
use Rattle.refusals.specs.declared.Refusal.{Refusal}
use Rattle.refusals.specs.declared.Refusal.TheVariants.{ZeroDenominator, WrongSize, EmptyKey, LongKey, StrangeKey, OpenKey}
use Rattle.refusals.specs.declared.Refusal.TheVariants.{OutOfRange, Outside, WrongColumn, Malformed, TableFull}
use Rattle.refusals.specs.declared.Refusal.TheVariants.{NoSuchRatio, LargeSum, TooFew, NoQuantity, UnsoundTable}

abbrev pub number_of : Refusal → ℕ
number_of ZeroDenominator = 1
number_of WrongSize = 2
number_of EmptyKey = 3
number_of LongKey = 4
number_of StrangeKey = 5
number_of OpenKey = 6
number_of OutOfRange = 7
number_of Outside = 8
number_of WrongColumn = 9
number_of Malformed = 10
number_of TableFull = 11
number_of NoSuchRatio = 12
number_of LargeSum = 13
number_of TooFew = 14
number_of NoQuantity = 15
number_of UnsoundTable = 16

-- 0 and what is above 16 stand for none
abbrev pub refusal_of : ℕ → Refusal
refusal_of n =
    let order =
    ZeroDenominator ∷ WrongSize ∷ EmptyKey ∷ LongKey ∷ StrangeKey ∷ OpenKey ∷ OutOfRange ∷ Outside ∷ WrongColumn
    ∷ Malformed ∷ TableFull ∷ NoSuchRatio ∷ LargeSum ∷ TooFew ∷ NoQuantity ∷ [] in
    get_or order (n - 1) UnsoundTable
