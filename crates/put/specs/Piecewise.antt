-- A string put out as text piece by piece: each piece is taken from the top of a machine word, which is then shifted,
-- and stands in memory behind the pieces before it.
use Rattle.std.specs.Prelude.{◌≡◌, refl, false, List, [], ◌∷◌, ◌++◌, ℕ, zero, suc, ◌+◌, ◌-◌, ◌*◌, ◌/◌, ◌%◌, ◌^◌, ◌≤◌, ◌<◌, length, take, drop, set}
use Rattle.std.proofs.Common.{append-nil, ◌∙◌, append_assoc, add-one, arith, length-drop, length-take-le, take-take, take-add, drop-drop}
use Rattle.std.proofs.lemmas.List.{map-append, length-map, take-append-le, set_split}
use Rattle.std.proofs.Math.Seq.{drop-append-add, drop-length}
use Rattle.bits.specs.Strings.{Bits}
use Rattle.bits.specs.Binary.{number_of, first_bits, digits_in}
use Rattle.bits.specs.Texts.{char_of, text_of, in_front}
use Rattle.bits.proofs.Memory.{front-more}
use Rattle.bits.proofs.Pieces.{take-map, first-take, length-digits, number_of-digits, first-digits, digits-first}
use Rattle.bits.proofs.Sums.{first_shorter, first_shifted}

-- memory after n characters of s, from a place on, were written at that place
abbrev pub part_put : (s : Bits) (at n : ℕ) (m : List ℕ) → List ℕ
part_put s at n m = take at m ++ in_front (text_of (take n (drop at s))) (drop at m)

-- the next n characters written behind those of the first characters of s
pub text-more : (s : Bits) (at n : ℕ) (start : List ℕ) → at ≤ length s
    → part_put s at n (in_front (text_of (take at s)) start) ≡ in_front (text_of (take (at + n) s)) start
text-more s at n start h =
    rw (take-add, map-append)
    (front-more (text_of (take at s)) (text_of (take n (drop at s))) start at
    (length-map (take at s) char_of ∙ length-take-le at s h))

-- memory past the text at its front is as it was
front_past : (t m : List ℕ) (n : ℕ) → length t ≤ n → drop n (in_front t m) ≡ drop n m
front_past t m n h =
    let whole : length t + (n - length t) ≡ n = omega arith in
    rw (drop-drop, whole) at (drop-append-add t (drop (length t) m) (n - length t))

-- a word that holds s from a place on: its top n bits as text
pub top_text : (s : Bits) (left at n k : ℕ) → n + k ≡ 64 → at + n ≤ length s
    → left ≡ number_of (first_bits false 64 (drop at s))
    → text_of (digits_in n (left / 2 ^ k)) ≡ text_of (take n (drop at s))
top_text s left at n k w h e =
    let within : n ≤ length (drop at s) = rw length-drop (omega arith) in
    let top : left / 2 ^ k ≡ number_of (first_bits false n (drop at s)) =
    rw (e, ← w) (first_shorter false n k (drop at s)) in
    rw (top, digits-first, first-take false n (drop at s) within)

-- n bits of a word, from a place on, moved to the top
pub shifted_text : (word k n j : ℕ) → word < 2 ^ 64 → n + j ≡ 64 → k + n ≤ 64
    → text_of (digits_in n (word * 2 ^ k % 2 ^ 64 / 2 ^ j)) ≡ text_of (take n (drop k (digits_in 64 word)))
shifted_text word k n j f w h =
    let s = digits_in 64 word in
    let long : length s ≡ 64 = length-digits 64 word in
    let whole : k + (64 - k) ≡ 64 = omega arith in
    let moved : word * 2 ^ k % 2 ^ 64 ≡ number_of (first_bits false 64 (drop k s)) =
    rw (whole, first-digits, number_of-digits 64 word f) at (first_shifted k (64 - k) s (omega arith)) in
    top_text s (word * 2 ^ k % 2 ^ 64) k n j w (omega arith) moved

pub one_character : (b : ℕ) → b < 2 → ◌≡◌ {A = List ℕ} ((48 + b) ∷ []) (text_of (digits_in 1 b))
unfolding digits_in
one_character zero h = refl
one_character (suc zero) h = refl
one_character (suc (suc b)) h = absurd (omega arith)

-- the first n characters of a text of bits are n
pub text-size : (n : ℕ) (s : Bits) → n ≤ length s → length (text_of (take n s)) ≡ n
text-size n s h = length-map (take n s) char_of ∙ length-take-le n s h

-- the first characters of a word that fill the memory
pub text-whole : (word : ℕ) (m : List ℕ) → length m ≤ 64
    → in_front (text_of (take (length m) (digits_in 64 word))) m ≡ text_of (take (length m) (digits_in 64 word))
text-whole word m h =
    rw (text-size (length m) (digits_in 64 word) (omega (arith, length-digits 64 word)), drop-length, append-nil)

module _ (word : ℕ) (fits : word < 2 ^ 64) (at : ℕ) (m : List ℕ) where
  abbrev bits : Bits
  bits = digits_in 64 word

  long : length bits ≡ 64
  long = length-digits 64 word

  -- one character stored at its place
  pub one_put : at < 64 → at < length m → set m at (48 + word * 2 ^ at % 2 ^ 64 / 2 ^ 63) ≡ part_put bits at 1 m
  one_put h inside =
      let bit = word * 2 ^ at % 2 ^ 64 / 2 ^ 63 in
      let text : (48 + bit) ∷ [] ≡ text_of (take 1 (drop at bits)) =
      one_character bit (omega arith) ∙ shifted_text word at 1 63 fits refl (omega arith) in
      rw (set_split, ← text, drop-drop, add-one)

  -- eight characters in the place of eight bytes
  pub eight-put : {t : List ℕ} → at ≤ 56 → t ≡ text_of (digits_in 8 (word * 2 ^ at % 2 ^ 64 / 2 ^ 56))
      → take at m ++ (t ++ drop (at + 8 - at) (drop at m)) ≡ part_put bits at 8 m
  eight-put {t} h e =
      let size : length (text_of (take 8 (drop at bits))) ≡ 8 =
      text-size 8 (drop at bits) (rw length-drop (omega (arith, long))) in
      let eight : at + 8 - at ≡ 8 = omega arith in
      rw (e ∙ shifted_text word at 8 56 fits refl (omega arith), size, eight)

-- the last n characters, of which the first may be put out already: they are the same
pub put_last : (s : Bits) (start : List ℕ) {m : List ℕ} (at k n : ℕ) → m ≡ in_front (text_of (take at s)) start
    → k ≤ at → at ≤ k + n → k + n ≤ length s → part_put s k n m ≡ in_front (text_of (take (k + n) s)) start
put_last s start {m} at k n e h o r =
    let put = text_of (take at s) in
    let size : length put ≡ at = text-size at s (omega arith) in
    let before : take k m ≡ text_of (take k s) =
    rw (e, take-append-le k put (drop (length put) start) (omega arith), take-map, take-take k at s h) in
    let behind : drop (k + n) m ≡ drop (k + n) start = rw e (front_past put start (k + n) (omega arith)) in
    rw (
      text-size (k + n) s (omega arith),
      text-size n (drop k s) (rw length-drop (omega arith)),
      drop-drop n k m,
      before,
      behind,
      take-add,
      map-append,
      append_assoc,
    )
