-- A loop that puts out a string as text from the top of a machine word, which is shifted behind each piece.
use Rattle.std.specs.Prelude.{◌≡◌, refl, false, List, [], ◌∷◌, ◌++◌, length, take, drop, set}
use Rattle.std.specs.Prelude.{ℕ, ◌+◌, ◌*◌, ◌/◌, ◌%◌, ◌^◌, ◌≤◌, ◌<◌}
use Rattle.std.proofs.Common.{sym, ◌∙◌, add-one, arith, length-append, length-take, length-drop, drop-drop}
use Rattle.std.proofs.lemmas.List.{length-map, set_split}
use Rattle.std.proofs.Math.Nat.{min-le_left}
use Rattle.bits.specs.Strings.{Bits}
use Rattle.bits.specs.Binary.{number_of, first_bits, digits_in}
use Rattle.bits.specs.Texts.{text_of, in_front}
use Rattle.bits.proofs.Pieces.{length-digits, number_of-digits, first-digits}
use Rattle.bits.proofs.Sums.{first-lt, first_shifted}
use Rattle.put.specs.Piecewise as pieces
use Rattle.put.specs.Piecewise.{part_put, text-more, top_text, one_character}

-- a loop that puts out s stands at a place: the text up to there is written, and the word holds the rest of s
pub record PutTo (s : Bits) (start m : List ℕ) (left at : ℕ) : Type 0 where
  pub memory : m ≡ in_front (text_of (take at s)) start
  pub word : left ≡ number_of (first_bits false 64 (drop at s))
  pub long : length s ≡ 64
  pub size : length m ≡ length start
  pub fits : left < 2 ^ 64

put_to : (s : Bits) (start : List ℕ) {m : List ℕ} {left : ℕ} (at : ℕ) → length s ≡ 64 → at ≤ length start
    → m ≡ in_front (text_of (take at s)) start → left ≡ number_of (first_bits false 64 (drop at s))
    → PutTo s start m left at
put_to s start at l h e w =
    let short : length (text_of (take at s)) ≤ length start =
    rw (length-map, length-take) (omega (arith, min-le_left at (length s))) in
    record {
      memory = e;
      word = w;
      long = l;
      size = rw (e, length-append, length-drop) (omega arith);
      fits = rw w (first-lt false 64 (drop at s));
    }

pub put_none : (word : ℕ) (m : List ℕ) → word < 2 ^ 64 → PutTo (digits_in 64 word) m m word 0
put_none word m h =
    put_to (digits_in 64 word) m 0 (length-digits 64 word) (omega arith) refl
    (sym (rw first-digits (number_of-digits 64 word h)))

module _ {s : Bits} {start m : List ℕ} {left at : ℕ} (p : PutTo s start m left at) where
  -- n more characters, those of the word's top n bits
  pub put-more : (n k : ℕ) (t : List ℕ) → n + k ≡ 64 → at + n ≤ 64 → at + n ≤ length start
      → t ≡ text_of (digits_in n (left / 2 ^ k))
      → PutTo s start (take at m ++ in_front t (drop at m)) (left * 2 ^ n % 2 ^ 64) (at + n)
  put-more n k t w h r e =
      let text : t ≡ text_of (take n (drop at s)) = e ∙ top_text s left at n k w (omega arith) p.word in
      put_to s start (at + n) p.long r (rw (p.memory, text) (text-more s at n start (omega arith)))
      (rw p.word (rw (drop-drop, w) at (first_shifted n k (drop at s) (rw length-drop (omega arith)))))

  -- one more
  pub put_one : at < 64 → at < length start
      → PutTo s start (set m at (48 + left / 2 ^ 63)) (left * 2 % 2 ^ 64) (at + 1)
  put_one h r =
      let v = 48 + left / 2 ^ 63 in
      let inside : at < length m = omega arith in
      let stored : set m at v ≡ take at m ++ in_front (v ∷ []) (drop at m) = rw (set_split, drop-drop, add-one) in
      rw stored
      (put-more 1 63 (v ∷ []) refl (omega arith) (omega arith) (one_character (left / 2 ^ 63) (omega arith)))

  -- the last n characters, of which the first may be put out already: they are the same
  pub put_last : (k n : ℕ) → k ≤ at → at ≤ k + n → k + n ≤ 64
      → part_put s k n m ≡ in_front (text_of (take (k + n) s)) start
  put_last k n h o r = pieces.put_last s start at k n p.memory h o (omega (arith, p.long))
