-- The demands are met. Each field names its theorem.
use Rattle.std.specs.Prelude.{◌≡◌, refl, false, not, ℕ, ◌≤◌, length, get_or}
use Rattle.std.proofs.Common.{ap}
use mathlib.Core.List.{List, [], ◌∷◌}
use Rattle.std.proofs.lemmas.List.{length-map}
use Rattle.bits.specs.Binary.{bits_of_bytes}
use Rattle.bits.specs.Texts.{text_of, bits_of_text, in_front}
use Rattle.bits.specs.Strings.{closed}
use Rattle.families.specs.Families.{Family}
use Rattle.families.proofs.Published.{words1983}
use Rattle.fractions.specs.Fractions.{lowest_terms}
use Rattle.keys.specs.Keys.{key_of, Canonical, value_of_key, cut_to, column_of}
use Rattle.keys.proofs.Back.{key_value, key-canonical, value_key, key_of_one}
use Rattle.keys.proofs.Order.{key_multiple, key-order, key_equal}
use Rattle.keys.specs.Size.{limit}
use Rattle.keys.proofs.Size.{key_size, count_size}
use Rattle.keys.proofs.Cutting.{cut-places}
use Rattle.keys.proofs.Distance.{cut_distance}
use Rattle.outcomes.specs.Outcomes.{Outcome, Refusal, first_of, called}
use Rattle.outcomes.specs.Refusals.{zero_denominator, key_refusals}
use Rattle.outcomes.specs.Laws.{Clear}
use Rattle.outcomes.proofs.Laws.{called-number, called-kept, clear-first, clear-number}
use Rattle.outcomes.proofs.TextKeys.{text-clear, clear-canonical}
use Rattle.outcomes.specs.Writing.{counts, write_text, write_column}
use Rattle.outcomes.specs.Reading.{terms, read_text, read_column, reduce}
use Rattle.outcomes.specs.Packing.{column_to_text, text_to_column}
use Rattle.outcomes.specs.Comparing.{standing, compare_text}
use Rattle.outcomes.specs.Cutting.{cut_text}
use Rattle.outcomes.specs.Stepping.{place_of, start_text, quotient_at, found, place_after, step_text}
use Rattle.outcomes.proofs.Cuts.{text-cut}
use Rattle.outcomes.proofs.Standings.{text-compared}
use Rattle.outcomes.proofs.Steps.{text-stepped}
use Rattle.outcomes.proofs.RoundTrips.{text-written, column-written, text_back, column_back}
use Rattle.outcomes.proofs.Rewriting.{text-lowest, column_lowest, text-again, column-again}
use Rattle.outcomes.proofs.Rewriting.{text-packed, packed_back, column-unpacked, unpacked_back}
use Rattle.demands.specs.Demands.{Refuses, Checked, Written, Faithful, Near, Demands}
use Rattle.demands.specs.Again.{Again}
use Rattle.demands.specs.Ordered.{Ordered}

-- every call is `called` with its order
pub refuses-first : (order : List Refusal) (values before after : List ℕ)
    → Refuses (called order values before after) order before
refuses-first order values before after = record {
  number = called-number order values before after;
  kept = called-kept order values before after;
}

-- a key that is refused by no number has no fault
judged : (k : List ℕ) → first_of (key_refusals k []) ≡ 0 → Clear (key_refusals k [])
judged k = clear-first (key_refusals k []) refl

-- and the text of a canonical key isn't refused
accepted : (k : List ℕ) → Canonical (bits_of_text k) → length k ≤ 96 → text_of (bits_of_text k) ≡ k
    → first_of (key_refusals k []) ≡ 0
accepted k c h e =
    let clear = text-clear (bits_of_text k) c (rw length-map h) in
    rw e at (clear-number (key_refusals (text_of (bits_of_text k)) []) clear)

checked : Checked
unfolding write_text write_column read_text read_column column_to_text text_to_column compare_text cut_text
    start_text step_text
checked = record {
  keys = λ k. (λ good. clear-canonical k (judged k good), λ (c, (h, e)). accepted k c h e);
  write-text = λ p q m. refuses-first _ (counts p q) _ (in_front (text_of (key_of words1983 p q)) m);
  write-column = λ p q m. refuses-first _ (counts p q) _ (in_front (column_of (key_of words1983 p q)) m);
  read-text = λ k. refuses-first _ (terms (value_of_key words1983 (bits_of_text k))) _ [];
  read-column = λ c. refuses-first _ (terms (value_of_key words1983 (bits_of_bytes c))) _ [];
  column-to-text = λ c m.
      let k = closed (bits_of_bytes c) in refuses-first _ (length k ∷ []) _ (in_front (text_of k) m);
  text-to-column = λ k m. refuses-first _ [] _ (in_front (column_of (bits_of_text k)) m);
  lowest-terms = λ p q. unfold reduce in refuses-first (zero_denominator q ∷ []) (terms (lowest_terms p q)) [] [];
  compare = λ j k. refuses-first _ (standing (bits_of_text j) (bits_of_text k) ∷ []) _ [];
  cut = λ k m n. let c = cut_to n (bits_of_text k) in refuses-first _ (length c ∷ []) _ (in_front (text_of c) m);
  start = λ k. refuses-first _ (place_of 1 (not (get_or (bits_of_text k) 0 false))) _ [];
  step = λ k u z. let a = quotient_at (bits_of_text k) u z in refuses-first _ (found a) _ (place_after a u z);
}

written : (p q : ℕ) → 1 ≤ q → p ≤ limit → q ≤ limit → Written p q (key_of words1983 p q)
written p q positive small low = record {
  text = λ m h. text-written p q m positive h;
  column = λ m h. column-written p q m positive h;
  sizes = (key_size words1983 p q positive small low, count_size words1983 p q positive small low);
  back = (text_back p q positive small low, column_back p q positive small low);
}

again : Again
again = record {
  lowest = text-lowest;
  column_lowest = column_lowest;
  text = text-again;
  column = λ c m p q bytes e h. ap (λ (o : Outcome). o.memory) (column-again c m p q bytes e h);
  packed = λ k l m good h j.
      let clear = judged k good in (text-packed k l clear h, packed_back k m clear j);
  unpacked = λ c l m bytes size h j. (column-unpacked c l size h, unpacked_back c m size bytes j);
}

ordered : (F : Family) → Ordered F
ordered F = record {
  reading = key_value F;
  writing = value_key F;
  canonical = key-canonical F;
  one_ratio = key_of_one F;
  multiple = key_multiple F;
  order = key-order F;
  equal = key_equal F;
}

faithful : Faithful
faithful = record {
  written = written;
  again = again;
  stepped = λ k p q good. text-stepped k (judged k good) p q;
  compared = λ j k p q r s good. text-compared j k p q r s (clear-first (key_refusals j (key_refusals k [])) refl good);
  ordered = ordered;
}

near : Near
near = record {
  cut = λ k m n good. text-cut k m n (judged k good);
  distance = cut_distance;
  places = cut-places;
}

pub demands : Demands
demands = record { checked = checked; faithful = faithful; near = near }
