-- What loading tells a call that takes a column first: that it refuses, or that the rest of its refusals decide.
use Rattle.std.specs.Prelude.{◌≡◌, Bool, cond, List, ◌∷◌, ℕ, length, Result, Ok, Err}
use Rattle.std.proofs.Math.Path.{refl}
use Rattle.std.proofs.Math.Bool.{true, false}
use Rattle.std.proofs.Common.{eqb-true}
use Rattle.std.proofs.Math.Dec.{eqb}
use Rattle.bits.specs.Binary.{bits_of_bytes}
use Rattle.blocks.specs.Blocks.{block_of}
use Rattle.blocks.specs.declared.Block.{Block}
use Rattle.outcomes.specs.Outcomes as outcomes
use Rattle.outcomes.specs.Outcomes.{Outcome, refuses, called}
use Rattle.outcomes.specs.Refusals.{wrong_column}
use Rattle.refusals.specs.declared.Refusal.{Refusal}
use Rattle.refusals.specs.declared.Refusal.TheVariants.{WrongColumn}
use Rattle.refusals.specs.Numbers.{number_of}
use Rattle.load.specs.Loading.{loaded}

module _ (c : List ℕ) (more : List outcomes.Refusal) (values before after : List ℕ) where
  abbrev whole : Outcome
  whole = called (wrong_column c ∷ more) values before after

  abbrev rest : Outcome
  rest = called more values before after

  -- a block, and that the rest decide; or that the refusal's number is the outcome's
  abbrev Tells : Result Block Refusal → Type 0
  Tells (Ok b) = (length c ≡ 12) × ((b ≡ block_of (bits_of_bytes c)) × (rest ≡ whole))
  Tells (Err e) = refuses (number_of e) (length values) before ≡ whole

  told : (l : Result Block Refusal) → l ≡ loaded c → Tells l
  unfolding loaded
  told l e = rw e (by_test (eqb (length c) 12) refl)
    where
      by_test : (b : Bool) → eqb (length c) 12 ≡ b
          → Tells (cond b (Ok (block_of (bits_of_bytes c))) (Err WrongColumn))
      by_test true h = (eqb-true (length c) 12 h, (refl, rw h))
      by_test false h = rw h

  pub told_wrong : (f : Refusal) → Err f ≡ loaded c → refuses (number_of f) (length values) before ≡ whole
  told_wrong f e = told (Err f) e

  pub told-block : (b : Block) → Ok b ≡ loaded c → (length c ≡ 12) × ((b ≡ block_of (bits_of_bytes c)) × (rest ≡ whole))
  told-block b e = told (Ok b) e
