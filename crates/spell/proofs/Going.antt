-- One turn of the writer's loop: a turned word and a word more, and the same string in all.
use Rattle.std.specs.Prelude.{◌≡◌, refl, true, not, List, [], ◌∷◌, ◌++◌, ℕ, ◌+◌, ◌*◌, ◌-◌, ◌/◌, ◌%◌, ◌≤◌, ◌<◌, length}
use Rattle.std.proofs.Common.{sym, ◌∙◌, ap, add-zero, div-add-mod', mod-lt, le-div_iff_mul-le, arith}
use Rattle.std.proofs.Common.{append_assoc, append-nil, length-append}
use Rattle.std.proofs.lemmas.List.{map-append, length-map}
use Rattle.bits.specs.Strings.{Bits, turn}
use Rattle.bits.proofs.Order.{turn-turn}
use Rattle.families.specs.Words.{word_of}
use Rattle.families.proofs.Published.{words1983}
use Rattle.fractions.specs.Fractions.{gcd}
use Rattle.fractions.proofs.Euclid.{gcd-end, gcd-step}
use Rattle.fractions.proofs.TwoStates.{alternate-end, alternate-word, alternate_turned, gcd_turned}
use Rattle.keys.specs.Keys.{spelled}
use Rattle.spell.specs.Spelling.{spelt, to_come, words_to_come, Room}

-- what holds at each turn, begun at d₀, r₀, line₀ and count₀
pub record Going (d₀ r₀ : ℕ) (line₀ : Bits) (count₀ d r : ℕ) (line : Bits) (count : ℕ) : Type 0 where
  pub here : Room d r line count
  pub string : line ++ words_to_come d r ≡ line₀ ++ words_to_come d₀ r₀
  pub counted : count + length (to_come d r) ≡ count₀ + length (to_come d₀ r₀)
  pub divisor : gcd d r ≡ gcd d₀ r₀

pub going-start : {d r : ℕ} {line : Bits} {count : ℕ} → Room d r line count → Going d r line count d r line count
going-start h = record { here = h; string = refl; counted = refl; divisor = refl }

module _ {d r : ℕ} {line : Bits} {count : ℕ} (some : 1 ≤ r) (here : Room d r line count) where
  abbrev t : ℕ
  t = (d - 1) % r + 1

  abbrev a : ℕ
  a = (d - 1) / r

  abbrev b : ℕ
  b = r / t

  pub t-below : t ≤ r
  t-below = omega (arith, mod-lt (d - 1) some)

  pub a-some : 1 ≤ a
  a-some = (le-div_iff_mul-le some).1 (omega (arith, here.turned))

  pub b-some : 1 ≤ b
  b-some = (le-div_iff_mul-le {k = t} (omega arith)).1 (omega (arith, t-below))

  pub left-below : r % t < t
  left-below = mod-lt r (omega arith)

  before : d ≡ a * r + t
  before = omega (arith, here.turned, div-add-mod' (d - 1) r)

  come : to_come d r ≡ a ∷ b ∷ to_come t (r % t)
  come =
      alternate_turned d r a t before (omega arith) t-below
      ∙ ap {B = List ℕ} (λ l. a ∷ l) (alternate-word r t b (r % t) (sym (div-add-mod' r t)) left-below)

  words : words_to_come d r ≡ turn (word_of a) ++ (word_of b ++ words_to_come t (r % t))
  words =
      let rest = word_of b ++ words_to_come t (r % t) in
      ap (λ (l : List ℕ). turn (spelled words1983 l)) come
      ∙ map-append not (word_of a) (turn rest)
      ∙ ap (λ (x : Bits). turn (word_of a) ++ x) (turn-turn rest)

  words-length : length (words_to_come d r)
      ≡ length (turn (word_of a)) + (length (word_of b) + length (words_to_come t (r % t)))
  words-length = rw (words, length-append, length-append)

  same_divisor : gcd d r ≡ gcd t (r % t)
  same_divisor =
      gcd_turned d r a t before (omega arith) t-below ∙ gcd-step r t b (r % t) (sym (div-add-mod' r t)) left-below

  -- there is room for the turned word, and then for the word
  pub room_turned : length line + length (word_of a) ≤ 96
  room_turned = omega (arith, words-length, length-map (word_of a) not, here.room)

  pub room-word : {next : Bits} → next ≡ line ++ turn (word_of a) → length next + length (word_of b) ≤ 96
  room-word e = omega (arith, words-length, here.room, ap length e, length-append line (turn (word_of a)))

  pub going-again : {d₀ r₀ : ℕ} {line₀ : Bits} {count₀ : ℕ} {next last : Bits}
      → Going d₀ r₀ line₀ count₀ d r line count → next ≡ line ++ turn (word_of a) → last ≡ next ++ word_of b
      → Going d₀ r₀ line₀ count₀ t (r % t) last (count + 2)
  going-again {next} {last} g e f =
      let rest = words_to_come t (r % t) in
      let same : last ++ rest ≡ line ++ words_to_come d r =
      rw (f, e, words) (rw (append_assoc, append_assoc) refl) in
      record {
        here = record {
          turned = left-below;
          range = omega (arith, t-below, here.turned, here.range);
          some = omega (
            arith,
            ap length f,
            length-append next (word_of b),
            ap length e,
            length-append line (turn (word_of a)),
            here.some,
          );
          room = rw (← length-append, same, length-append) here.room;
          few = omega (arith, ap length come, here.few);
        };
        string = same ∙ g.string;
        counted = omega (arith, ap length come, g.counted);
        divisor = sym same_divisor ∙ g.divisor;
      }

-- at the end nothing is to come, and the answer is that of the start
pub going-end : {d₀ r₀ : ℕ} {line₀ : Bits} {count₀ d r : ℕ} {line : Bits} {count : ℕ}
    → Going d₀ r₀ line₀ count₀ d r line count → r ≡ 0
    → spelt line count d ≡ spelt (line₀ ++ words_to_come d₀ r₀) (count₀ + length (to_come d₀ r₀)) (gcd d₀ r₀)
going-end {d} {r} {line} g e =
    let over : to_come d r ≡ [] = rw e (alternate-end true d) in
    let none : words_to_come d r ≡ [] = ap (λ (l : List ℕ). turn (spelled words1983 l)) over in
    rw (← g.string, ← g.counted, ← g.divisor, none, over, e, gcd-end) (rw (append-nil, add-zero) refl)
