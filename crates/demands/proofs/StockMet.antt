-- What is promised of the stock table holds. Each field names its theorem.
use Rattle.std.specs.Prelude.{◌≡◌, false, List, [], ◌∷◌, ℕ, ◌*◌, ◌≤◌}
use Rattle.std.proofs.Common.{arith}
use Rattle.bits.specs.Texts.{Bytes}
use Rattle.keys.specs.Size.{limit}
use Rattle.tables.specs.Rows.{Layout, row_size, rows_in}
use Rattle.tables.specs.Layouts.{stock_rows}
use Rattle.tables.proofs.Tables.{plain-fits}
use Rattle.tables.proofs.Changed.{one_row}
use Rattle.outcomes.proofs.Laws.{clear-number}
use Rattle.outcomes.specs.Stocking.{Call, put_in, take_out, find, list_from, wrong_table, unsound_table}
use Rattle.outcomes.specs.Stocking.{stock_values, stock_memory, stock_call}
use Rattle.histories.specs.Histories.{empty_in, after, AllNumbers}
use Rattle.histories.proofs.Holding.{holds_empty}
use Rattle.histories.proofs.Balance.{balance, row_balance, sound-after, unused_after, zeros-after}
use Rattle.histories.proofs.Alike.{answers-same}
use Rattle.histories.proofs.Meaning.{right_size, right_rows, keys_rise}
use Rattle.histories.proofs.Accepted.{put-accepted, take-accepted, find-accepted, list-accepted, list_none}
use Rattle.demands.proofs.DemandsMet.{refuses-first}
use Rattle.demands.specs.Stock.{StockChecked, Accepted, History, Stock}

checked : (p q n used : ℕ) (m : List ℕ) → StockChecked p q n used m
unfolding stock_call
checked p q n used m =
    let rest : Call → List ℕ = λ c. stock_memory stock_rows (rows_in (row_size stock_rows) used m) c m in
    let value : Call → List ℕ = λ c. stock_values (rows_in (row_size stock_rows) used m) c in
    record {
      put = refuses-first _ (value (put_in p q n)) m (rest (put_in p q n));
      take = refuses-first _ (value (take_out p q n)) m (rest (take_out p q n));
      found = refuses-first _ (value (find p q)) m (rest (find p q));
      listed = refuses-first _ (value (list_from p q)) m (rest (list_from p q));
      size = right_size stock_rows m;
      sound = (
        λ e. let (room, (fine, fits)) = (right_rows stock_rows used m).0 e in (room, fine),
        λ (room, fine). (right_rows stock_rows used m).1 (room, (fine, plain-fits used m)),
      );
    }

accepted : (p q n used : ℕ) (m e : List ℕ) → Bytes m → p ≤ limit → q ≤ limit → Accepted p q n used m e
accepted p q n used m e bytes a b = record {
  put = λ u i h k. put-accepted stock_rows used m bytes p q n u i h e a b k;
  take = λ u i h k. take-accepted stock_rows used m bytes p q n u i h e a b k;
  found = find-accepted stock_rows used m bytes p q e;
  listed = list-accepted stock_rows used m bytes p q e;
  none_listed = list_none stock_rows used m bytes p q e;
}

history : (L : Layout) (calls : List Call) (m : List ℕ) → AllNumbers calls → (wrong_table L m).1 ≡ false
    → History L calls m (after L calls (empty_in m))
history L calls m b e =
    let empty = empty_in m in
    let none : row_size L * 0 ≡ 0 = omega arith in
    record {
      balance = λ p q h. balance L p q h calls m b e;
      row_balance = row_balance L calls m b e;
      sound = let s = after L calls empty in
          clear-number (wrong_table L s.memory ∷ unsound_table L s.used s.memory ∷ []) (sound-after L calls m b e);
      unused = λ n. unused_after L n calls empty b (holds_empty L m e);
      zeros = λ z. zeros-after L calls empty b (holds_empty L m e) (rw none z);
      answered = λ M k f g. answers-same M L calls k m b f e g;
    }

pub stock : Stock
stock = record {
  checked = checked;
  accepted = accepted;
  one_row = λ p q a b r h. one_row p q h a b r;
  keys = keys_rise;
  history = history;
}
