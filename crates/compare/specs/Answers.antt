-- The scope's number for each way in which two keys stand, and the way that a number stands for.
use Rattle.std.specs.Prelude.{cond, List, [], ◌∷◌, ℕ, eqb, get_or}
use Rattle.std.specs.declared.cmp.Ordering.{Ordering}
use Rattle.std.specs.declared.cmp.Ordering.TheVariants.{Less, Equal, Greater}
use Rattle.outcomes.specs.Comparing.{before, same, after}

abbrev pub standing_as : Ordering → List ℕ
standing_as Less = before ∷ []
standing_as Equal = same ∷ []
standing_as Greater = after ∷ []

abbrev pub standing_in : List ℕ → Ordering
standing_in l = let n = get_or l 0 0 in cond (eqb n before) Less (cond (eqb n same) Equal Greater)
