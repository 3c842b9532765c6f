-- The text of a block's key: the first characters of its string, put out from one word or from two.
use Rattle.std.specs.Prelude.{◌≡◌, false, List, ◌++◌, ℕ, ◌+◌, ◌-◌, ◌*◌, ◌%◌, ◌^◌, ◌≤◌, ◌<◌, length, drop, Result, Ok}
use Rattle.std.proofs.Common.{sym, ◌∙◌, arith, take-take, length-take-le, length-drop, length-append, le-ltb}
use Rattle.std.proofs.Math.Path.{ap}
use Rattle.std.proofs.Math.ListN.{take}
use Rattle.bits.specs.Strings.{Bits, closed}
use Rattle.bits.specs.Binary.{number_of, first_bits, digits_in}
use Rattle.bits.specs.Texts.{text_of, in_front}
use Rattle.bits.proofs.Pieces.{take-first, length-digits, number_of-digits, digits-first}
use Rattle.bits.proofs.Sums.{number-raised}
use Rattle.bits.proofs.Trim.{closed-length, closed-take}
use Rattle.blocks.specs.declared.Block.{Block}
use Rattle.blocks.specs.Blocks.{bits_of_block}
use Rattle.blocks.proofs.Laws.{block-length, block-front, block-rest}
use Rattle.refusals.specs.declared.Refusal.{Refusal}
use Rattle.put.specs.Putting.{text_put}
use Rattle.put.specs.Piecewise.{text-more, text-size}

pub key-length : (b : Block) → length (closed (bits_of_block b)) ≤ 96
key-length b = omega (arith, closed-length (bits_of_block b), block-length b)

-- the digits of a half word that is shifted to the top of a word
pub low_take : (v n : ℕ) → v < 2 ^ 32 → n ≤ 32 → take n (digits_in 64 (v * 2 ^ 32 % 2 ^ 64)) ≡ take n (digits_in 32 v)
low_take v n h r =
    let t = digits_in 32 v in
    let size : length t ≡ 32 = length-digits 32 v in
    let value : v * 2 ^ 32 % 2 ^ 64 ≡ number_of (first_bits false 64 t) =
    rw (number_of-digits 32 v h) at (number-raised 64 32 t (omega arith)) in
    rw (value, digits-first) (take-first false n 64 t (omega arith) (omega arith))

module _ (b : Block) (m : List ℕ) {n : ℕ} (room : 96 ≤ length m) (count : n ≡ length (closed (bits_of_block b))) where
  pub key-text : {e : List ℕ} → e ≡ in_front (text_of (take n (bits_of_block b))) m
      → ◌≡◌ {A = Result ℕ Refusal × List ℕ} (Ok n, e) (text_put (bits_of_block b) m)
  unfolding text_put
  key-text h =
      let key : take n (bits_of_block b) ≡ closed (bits_of_block b) = rw count (sym (closed-take (bits_of_block b))) in
      rw (le-ltb (length m) 96 room) (λ i. (Ok (count i), (h ∙ ap (λ (t : Bits). in_front (text_of t) m) key) i))

  -- t was put out into the first n bytes
  pub high_text : {t : List ℕ} → n ≤ 64 → t ≡ text_of (take (length (take n m)) (digits_in 64 b.high))
      → ◌≡◌ {A = Result ℕ Refusal × List ℕ} (Ok n, t ++ drop n m) (text_put (bits_of_block b) m)
  high_text {t} l h =
      let size = text-size n (digits_in 64 b.high) (omega (arith, length-digits 64 b.high)) in
      let text : t ≡ text_of (take n (digits_in 64 b.high)) = rw (length-take-le n m (omega arith)) at h in
      let put : t ++ drop n m ≡ in_front (text_of (take n (digits_in 64 b.high))) m = rw (text, size) in
      key-text (rw (← block-front, take-take) at put)

  -- from both words: t was put out into the first 64 bytes, and u into those behind
  pub both_text : {t u : List ℕ} → 64 < n → b.low < 2 ^ 32
      → t ≡ text_of (take (length (take 64 m)) (digits_in 64 b.high))
      → u ≡ text_of (take (length (take (n - 64) (drop 64 (t ++ drop 64 m)))) (digits_in 64 (b.low * 2 ^ 32 % 2 ^ 64)))
      → ◌≡◌ {A = Result ℕ Refusal × List ℕ}
      (Ok n, take 64 (t ++ drop 64 m) ++ (u ++ drop (n - 64) (drop 64 (t ++ drop 64 m)))) (text_put (bits_of_block b) m)
  both_text {t} {u} l h f g =
      let s = bits_of_block b in
      let low = b.low * 2 ^ 32 % 2 ^ 64 in
      let first = t ++ drop 64 m in
      let start : take 64 (digits_in 64 b.high) ≡ take 64 s =
      rw (← block-front b) (take-take 64 64 s (omega arith)) in
      let rest : take (n - 64) (digits_in 64 low) ≡ take (n - 64) (drop 64 s) =
      rw block-rest (low_take b.low (n - 64) h (omega (arith, key-length b))) in
      let size = text-size 64 s (omega (arith, block-length b)) in
      let text : t ≡ text_of (take 64 s) = f ∙ rw (length-take-le 64 m (omega arith), start) in
      let before : first ≡ in_front (text_of (take 64 s)) m = rw (text, size) in
      let long : length t ≡ 64 = rw text size in
      let all : length first ≡ length m = rw (length-append, length-drop) (omega arith) in
      let place : length (take (n - 64) (drop 64 first)) ≡ n - 64 =
      length-take-le (n - 64) (drop 64 first) (rw length-drop (omega (arith, key-length b))) in
      let behind : u ≡ text_of (take (n - 64) (drop 64 s)) = g ∙ rw (place, rest) in
      let size-rest : length (text_of (take (n - 64) (drop 64 s))) ≡ n - 64 =
      text-size (n - 64) (drop 64 s) (rw length-drop (omega (arith, block-length b, key-length b))) in
      let whole : 64 + (n - 64) ≡ n = omega arith in
      let more = rw (size-rest, whole) at (text-more s 64 (n - 64) m (omega (arith, block-length b))) in
      let put : take 64 first ++ (u ++ drop (n - 64) (drop 64 first)) ≡ in_front (text_of (take n s)) m =
      rw (before, behind) more in
      key-text put
