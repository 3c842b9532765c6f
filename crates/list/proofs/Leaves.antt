-- What the leaves that have room put out, and that it takes few bytes.
use Rattle.std.specs.Prelude.{◌≡◌, refl, List, ℕ, ◌^◌, ◌≤◌, ◌<◌, ltb, length, Result, Ok, Err, MatchResult}
use Rattle.std.proofs.Common.{le-ltb, sym, subst}
use Rattle.std.proofs.lemmas.List.{length-map}
use Rattle.bits.specs.Strings.{Bits, closed}
use Rattle.bits.specs.Texts.{char_of, text_of, in_front}
use Rattle.blocks.specs.Blocks.{bits_of_block}
use Rattle.blocks.specs.declared.Block.{Block}
use Rattle.numerals.specs.Numerals.{decimal_of}
use Rattle.numerals.proofs.Laws.{decimal_size}
use Rattle.put.specs.KeyText.{key-length}
use Rattle.put.specs.Putting.{text_put, decimal_put}
use Rattle.refusals.specs.declared.Refusal.{Refusal}
use Rattle.refusals.specs.Buffers.{Put}
use Rattle.list.specs.Puts.{Puts}

-- a leaf doesn't refuse, and what it gives is so
abbrev pub Gives : Result ℕ Refusal → (ℕ → Type 0) → Type 0
Gives x so = MatchResult x so (λ _. ⊥)

-- a leaf that wants size bytes and has them puts out its text
room-puts : (size : ℕ) (t m : List ℕ) (x : Result ℕ Refusal) (e : List ℕ) → size ≤ length m
    → Put (ltb (length m) size) m (in_front t m) (length t) x e → Gives x (λ r. Puts t m r e)
room-puts size t m x e h p =
    let both : ◌≡◌ {A = Result ℕ Refusal × List ℕ} (x, e) (Ok (length t), in_front t m) =
    rw (le-ltb (length m) size h) at p in
    let given : x ≡ Ok (length t) = λ i. (both i).0 in
    subst (λ y. Gives y (λ r. Puts t m r e)) (sym given) (record { count = refl; memory = λ i. (both i).1 })

-- what follows from what a leaf gives
gives-so : (x : Result ℕ Refusal) {so then : ℕ → Type 0} → ((r : ℕ) → so r → then r) → Gives x so → Gives x then
gives-so (Ok r) f g = f r g
gives-so (Err e) f g = g

module _ (n : ℕ) (m : List ℕ) (x : Result ℕ Refusal) (e : List ℕ) (h : 10 ≤ length m)
    (p : ◌≡◌ {A = Result ℕ Refusal × List ℕ} (x, e) (decimal_put n m)) where
  pub decimal_puts : Gives x (λ r. Puts (decimal_of n) m r e)
  unfolding decimal_put
  decimal_puts = room-puts 10 (decimal_of n) m x e h p

  pub decimal_few : n < 2 ^ 32 → Gives x (λ r. r ≤ 10)
  decimal_few small = gives-so x (λ r q. rw q.count (decimal_size n small)) decimal_puts

module _ (b : Block) (m : List ℕ) (x : Result ℕ Refusal) (e : List ℕ) (h : 96 ≤ length m)
    (p : ◌≡◌ {A = Result ℕ Refusal × List ℕ} (x, e) (text_put (bits_of_block b) m)) where
  abbrev key : Bits
  key = closed (bits_of_block b)

  pub text-puts : Gives x (λ r. Puts (text_of key) m r e)
  unfolding text_put
  text-puts = room-puts 96 (text_of key) m x e h (rw (← (length-map key char_of)) at p)

  pub text_few : Gives x (λ r. r ≤ 96)
  text_few = gives-so x (λ r q. rw (q.count, length-map) (key-length b)) text-puts
