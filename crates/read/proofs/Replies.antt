-- What reading answers, by what judging, loading and finding gave.
use Rattle.std.specs.Prelude.{◌≡◌, refl, Bool, true, false, cond, List, [], ◌∷◌, ℕ, ◌≤◌, length, Result, Ok, Err}
use Rattle.std.specs.Result.{IsErrAnd, MatchResult}
use Rattle.std.proofs.Common.{◌∙◌, ap, arith}
use Rattle.std.proofs.lemmas.List.{length-map}
use Rattle.bits.specs.Strings as strings
use Rattle.bits.specs.Binary.{bits_of_bytes}
use Rattle.bits.specs.Texts.{bits_of_text}
use Rattle.bits.proofs.Columns.{bits-length}
use Rattle.blocks.specs.Blocks.{bits_of_block, block_of}
use Rattle.blocks.specs.declared.Block.{Block}
use Rattle.blocks.proofs.Laws.{block-whole}
use Rattle.families.proofs.Published.{words1983}
use Rattle.fractions.specs.Fractions.{Ratio}
use Rattle.fractions.specs.declared.Fraction.{Fraction}
use Rattle.keys.proofs.Back.{value_same}
use Rattle.load.specs.Loading.{loaded}
use Rattle.load.specs.Callers.{told_wrong, told-block}
use Rattle.outcomes.specs.Outcomes.{Outcome, leaves, gives, refuses, called}
use Rattle.outcomes.specs.Reading.{terms, read_text, read_column}
use Rattle.outcomes.specs.Refusals.{out_of_range}
use Rattle.refusals.specs.declared.Refusal.{Refusal}
use Rattle.refusals.specs.declared.Refusal.TheVariants.{OutOfRange}
use Rattle.refusals.specs.Answers.{answered, terms_as}
use Rattle.scan.specs.Judging.{judgement}
use Rattle.scan.proofs.Callers.{told_on, told-key}
use Rattle.scan.specs.declared.Fault.{Fault}
use Rattle.read.specs.Finding.{value_in, fraction, is_over, found_in, found_of}

-- the outcome of reading where only the range is left to refuse
abbrev pub found_as : Result Fraction ℕ → Outcome
found_as (Ok r) = gives (terms_as r) []
found_as (Err used) = refuses 7 2 []

abbrev in_range : Ratio → Outcome
in_range v = called (out_of_range v ∷ []) (terms v) [] []

found-outcome : (s : strings.Bits) → found_as (found_of s) ≡ in_range (value_in s)
unfolding found_of
found-outcome s = by_test (is_over (value_in s))
  where
    by_test : (o : Bool)
        → found_as (cond o (Err (found_in s)) (Ok (fraction (value_in s))))
        ≡ cond o (refuses 7 2 []) (gives (terms (value_in s)) [])
    by_test true = refl
    by_test false = refl

-- a block holds a string of up to 96 characters whole, extended by zeros
block-outcome : (s : strings.Bits) → length s ≤ 96
    → found_as (found_of (bits_of_block (block_of s))) ≡ in_range (value_in s)
block-outcome s h =
    let held = bits_of_block (block_of s) in
    found-outcome held ∙ ap in_range (value_same words1983 held s (block-whole s h))

-- the answer where finding gave r, whose Err says no more than that the value is out of range
abbrev pub Handed : Result Fraction ℕ → Result Fraction Refusal → Type 0
Handed r a = MatchResult r (λ x. a ≡ Ok x) (λ used. IsErrAnd a (λ e. e ≡ OutOfRange))

handed-as : (r : Result Fraction ℕ) (a : Result Fraction Refusal) → Handed r a
    → leaves (answered 2 terms_as a) [] ≡ found_as r
handed-as (Ok x) a h = rw h refl
handed-as (Err used) (Ok x) h = absurd h
handed-as (Err used) (Err e) h = rw h refl

module _ (k : List ℕ) where
  abbrev text_value : Ratio
  text_value = value_in (bits_of_text k)

  pub text_faulty : (a : Result Fraction Refusal) (f : Fault) → Err f ≡ judgement k → IsErrAnd a (λ e. e ≡ f.refusal)
      → leaves (answered 2 terms_as a) [] ≡ read_text k
  unfolding read_text
  text_faulty = told_on k (out_of_range text_value ∷ []) (terms text_value) [] [] terms_as

  pub text-found : Ok tt ≡ judgement k → (b : Block) → b ≡ block_of (bits_of_text k) → (r : Result Fraction ℕ)
      → r ≡ found_of (bits_of_block b) → (a : Result Fraction Refusal) → Handed r a
      → leaves (answered 2 terms_as a) [] ≡ read_text k
  unfolding read_text
  text-found e b l r f a h =
      let (m, o) = told-key k (out_of_range text_value ∷ []) (terms text_value) [] [] e in
      handed-as r a h ∙ rw (f, l) (block-outcome (bits_of_text k) (rw length-map m) ∙ o)

module _ (c : List ℕ) where
  abbrev column_value : Ratio
  column_value = value_in (bits_of_bytes c)

  pub column_wrong : (a : Result Fraction Refusal) (f : Refusal) → Err f ≡ loaded c → IsErrAnd a (λ e. e ≡ f)
      → leaves (answered 2 terms_as a) [] ≡ read_column c
  unfolding read_column
  column_wrong (Ok x) f e h = absurd h
  column_wrong (Err d) f e h = rw h (told_wrong c (out_of_range column_value ∷ []) (terms column_value) [] [] f e)

  pub column-found : (b : Block) → Ok b ≡ loaded c → (r : Result Fraction ℕ) → r ≡ found_of (bits_of_block b)
      → (a : Result Fraction Refusal) → Handed r a → leaves (answered 2 terms_as a) [] ≡ read_column c
  unfolding read_column
  column-found b e r f a h =
      let (m, (l, o)) = told-block c (out_of_range column_value ∷ []) (terms column_value) [] [] b e in
      handed-as r a h ∙ rw (f, l) (block-outcome (bits_of_bytes c) (omega (arith, bits-length c)) ∙ o)

-- what the proofs of the two calls are found by
pub ruleset replies = (text_faulty, text-found, column_wrong, column-found)
