-- What is promised of the lister holds. Each field names its theorem.
use Rattle.std.specs.Prelude.{◌≡◌, refl, ℕ, ◌≤◌}
use mathlib.Core.List.{List, [], ◌∷◌, ◌++◌, flatten, append-nil}
use Rattle.std.proofs.Common.{arith, ne_eqb}
use Rattle.numerals.specs.Numerals.{decimal_of}
use Rattle.numerals.proofs.Laws.{decimal_one, decimal_digits, decimal_value, decimal_front}
use Rattle.lines.specs.Lines.{printed, Unbroken, lines_of, answered}
use Rattle.lines.specs.Machines.{stretched, lacking, run}
use Rattle.lines.proofs.Stretches.{lacking_said}
use Rattle.lines.proofs.Splitting.{line_ended, line_last}
use Rattle.outcomes.specs.Typing.{numerator_of, denominator_of}
use Rattle.outcomes.proofs.Shapes.{ratio-accepted, accepted-ratio}
use Rattle.outcomes.specs.Listing.{entry_of, accepted_line, refused_line, line_answer, listing}
use Rattle.fields.proofs.TypedLines.{field_typed}
use Rattle.fields.specs.declared.Field.{Field}
use Rattle.list.specs.Ratios.{ratios}
use Rattle.list.proofs.Lines.{listing-run}
use Rattle.demands.specs.Lister.{Numeral, Answered, Lister}

numeral : (n : ℕ) → Numeral n (decimal_of n)
numeral n = record {
  digits = decimal_digits n;
  value = decimal_value n;
  front = decimal_front n;
  zero = λ e. rw e (decimal_one 0 (omega arith));
}

line : (l : List ℕ) → Answered l (numerator_of l) (denominator_of l)
unfolding line_answer accepted_line refused_line entry_of printed
line l = record {
  refused = λ n e h. rw (e, ne_eqb n 0 (λ z. omega arith));
  accepted = λ a b e f. rw (e, f);
}

next : (l t : List ℕ) → Unbroken l → listing (l ++ (10 ∷ t)) ≡ line_answer l ++ listing t
unfolding listing answered flatten
next l t u = rw (line_ended l t u)

last : (c : ℕ) (l : List ℕ) → Unbroken (c ∷ l) → listing (c ∷ l) ≡ line_answer (c ∷ l)
unfolding listing answered flatten
last c l u = rw (line_last c l u, append-nil)

empty : listing [] ≡ []
unfolding listing answered flatten lines_of
empty = refl

end : (s : Field) (room : ℕ) → 130 ≤ room → (stretched ratios room s (lacking ratios s)).text ≡ run ratios s [] []
unfolding run
end s room = lacking_said ratios room s

pub lister : Lister
lister = record {
  numeral = numeral;
  shape = ratio-accepted;
  no_other = accepted-ratio;
  line = line;
  settled = field_typed;
  empty = empty;
  next = next;
  last = last;
  cut = listing-run;
  end = end;
}
