-- What judging a text key gives: the first fault in the order 3, 4, 5, 6, and the index of the character at which the
-- judge stopped.
use Rattle.std.specs.Prelude.{cond, List, ℕ, ◌-◌, length, Result, Ok, Err}
use Rattle.outcomes.specs.Refusals.{first_strange, empty_key, long_key, strange_key, open_key}
use Rattle.refusals.specs.declared.Refusal.{Refusal}
use Rattle.refusals.specs.declared.Refusal.TheVariants.{EmptyKey, LongKey, StrangeKey, OpenKey}
use Rattle.scan.specs.declared.Fault.{Fault}

abbrev pub fault : Refusal → ℕ → Fault
fault e n = record { refusal = e; at = n }

unfoldable pub judgement : List ℕ → Result (Unit {0}) Fault
judgement k =
    cond (empty_key k).1 (Err (fault EmptyKey 0))
    (cond (long_key k).1 (Err (fault LongKey 96))
    (cond (strange_key k).1 (Err (fault StrangeKey (first_strange k)))
    (cond (open_key k).1 (Err (fault OpenKey (length k - 1))) (Ok tt))))
