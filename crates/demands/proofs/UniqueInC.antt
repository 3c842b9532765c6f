-- Any two outcomes that the contract of an exported function allows are identical, struct and memory: in C too a call
-- has one outcome. (The contract of `lcf_earlier` is an equation for its result already.)
use Rattle.std.specs.Prelude.{◌≡◌, Bool, List, ℕ}
use Rattle.std.proofs.Common.{sym, ◌∙◌, ap}
use Rattle.outcomes.specs.Laws.{Determined}
use Rattle.outcomes.proofs.Laws.{determined}
use Rattle.outcomes.specs.Writing.{write_text, write_column}
use Rattle.outcomes.specs.Reading.{read_text, read_column}
use Rattle.outcomes.specs.Packing.{column_to_text, text_to_column}
use Rattle.outcomes.specs.Comparing.{compare_text}
use Rattle.outcomes.specs.Cutting.{cut_text}
use Rattle.outcomes.specs.Stepping.{start_text, step_text}
use Rattle.outcomes.specs.Stocking.{Call, stock_call}
use Rattle.tables.specs.Layouts.{stock_rows}
use Rattle.stock_structs.specs.Structs.{of_stocked, stocked_in, stocked-told, of_found, found_in, found-told}
use Rattle.stock_structs.specs.Structs.{of_listed, listed_in, listed-told}
use Rattle.lcf.specs.declared.Stepped.{Stepped}
use Rattle.lcf.specs.Structs.{of_written, of_ratio, of_text, of_column, of_standing, of_started, of_stepped}
use Rattle.lcf.specs.Laws.{written_in, written-told, ratio_in, ratio-told, text_in, text-told, column_in, column-told}
use Rattle.lcf.specs.Laws.{standing_in, standing-told, started_in, started-told, stepped_in, stepped-told}

pub lcf_write_text_unique : (p q : ℕ) (m : List ℕ) → Determined of_written (write_text p q m)
lcf_write_text_unique p q m = determined of_written written_in written-told (write_text p q m)

pub lcf_write_column_unique : (p q : ℕ) (m : List ℕ) → Determined of_written (write_column p q m)
lcf_write_column_unique p q m = determined of_written written_in written-told (write_column p q m)

pub lcf_read_text_unique : (k : List ℕ) → Determined of_ratio (read_text k)
lcf_read_text_unique k = determined of_ratio ratio_in ratio-told (read_text k)

pub lcf_read_column_unique : (c : List ℕ) → Determined of_ratio (read_column c)
lcf_read_column_unique c = determined of_ratio ratio_in ratio-told (read_column c)

pub lcf_column_to_text_unique : (c m : List ℕ) → Determined of_text (column_to_text c m)
lcf_column_to_text_unique c m = determined of_text text_in text-told (column_to_text c m)

pub lcf_text_to_column_unique : (k m : List ℕ) → Determined of_column (text_to_column k m)
lcf_text_to_column_unique k m = determined of_column column_in column-told (text_to_column k m)

pub lcf_compare_unique : (j k : List ℕ) → Determined of_standing (compare_text j k)
lcf_compare_unique j k = determined of_standing standing_in standing-told (compare_text j k)

pub lcf_cut_unique : (k m : List ℕ) (n : ℕ) → Determined of_text (cut_text k n m)
lcf_cut_unique k m n = determined of_text text_in text-told (cut_text k n m)

pub lcf_start_unique : (k : List ℕ) → Determined of_started (start_text k)
lcf_start_unique k = determined of_started started_in started-told (start_text k)

-- the place that a step hands back is a field of its struct
pub lcf_step_unique : (k : List ℕ) (used : ℕ) (z : Bool) (r s : Stepped) → of_stepped r ≡ step_text k used z
    → of_stepped s ≡ step_text k used z → r ≡ s
lcf_step_unique k used z r s e f = sym (stepped-told r) ∙ ap stepped_in (e ∙ sym f) ∙ stepped-told s

-- putting in and taking out answer by one struct
pub lcf_stocked_unique : (c : Call) (used : ℕ) (m : List ℕ) → Determined of_stocked (stock_call stock_rows c used m)
lcf_stocked_unique c used m = determined of_stocked stocked_in stocked-told (stock_call stock_rows c used m)

pub lcf_found_unique : (c : Call) (used : ℕ) (m : List ℕ) → Determined of_found (stock_call stock_rows c used m)
lcf_found_unique c used m = determined of_found found_in found-told (stock_call stock_rows c used m)

pub lcf_listed_unique : (c : Call) (used : ℕ) (m : List ℕ) → Determined of_listed (stock_call stock_rows c used m)
lcf_listed_unique c used m = determined of_listed listed_in listed-told (stock_call stock_rows c used m)
