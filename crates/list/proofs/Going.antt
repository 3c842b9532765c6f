-- The lister on its way through a stretch: what it took, wrote and left, from one byte to the next and to the end.
use Rattle.std.specs.Prelude.{◌≡◌, refl, Bool, true, false, cond, List, [], ◌∷◌, ◌++◌, ℕ, ◌+◌, ◌-◌, ◌≤◌, ◌<◌, eqb}
use Rattle.std.specs.Prelude.{length, get_or, take, drop, Option, Some, None}
use Rattle.std.proofs.Common.{sym, ap, ◌∙◌, append-nil, add-zero, add-one, arith, eqb-true, length-append}
use Rattle.std.proofs.Common.{length-drop, drop_of_length-le, drop-cons, take-append-drop}
use Rattle.std.proofs.lemmas.Bool.{eqb-false}
use Rattle.bits.proofs.Memory.{lent_part, lent_back}
use Rattle.fields.specs.Fields.{fed_by, feed_of}
use Rattle.fields.specs.declared.Field.{Field}
use Rattle.fields.specs.declared.Field.TheVariants.{Empty}
use Rattle.lines.specs.Machines.{behind, untouched, stretched}
use Rattle.lines.proofs.Stretches.{
  behind_none,
  behind-behind,
  stretch-full,
  stretch-answers,
  stretch_feeds,
  stretch-read,
  stretch-fits,
  stretch-some,
}
use Rattle.list.specs.Puts.{Puts, MayPut}
use Rattle.list.proofs.Puts.{puts-text}
use Rattle.list.specs.Ratios.{answer_of, ratios}
use Rattle.list.specs.Listing.{Lists}

-- what the answer to a byte that was fed says of it
abbrev Says : Field → ℕ → Option Field → Type 0
Says s c None = c ≡ 10
Says s c (Some next) = (c ≡ 10 → ⊥) × (next ≡ fed_by s c)

-- it is a newline where the line ended, and otherwise the field goes on
feed-says : (s : Field) (c : ℕ) (r : Option Field) → r ≡ feed_of s c → Says s c r
feed-says s c r e = rw e (by_test (eqb c 10) refl)
  where
    by_test : (b : Bool) → eqb c 10 ≡ b → Says s c (cond b None (Some (fed_by s c)))
    by_test true t = eqb-true c 10 t
    by_test false t = (eqb-false c 10 t, refl)

module _ (begun : Field) (input m : List ℕ) where
  -- the stretch is what is left of it, behind what was taken and the text
  abbrev Left : Field → ℕ → ℕ → List ℕ → Type 0
  Left field taken written text =
      stretched ratios (length m) begun input
      ≡ behind taken text (stretched ratios (length m - written) field (drop taken input))

  -- so far a text is written into the memory m
  pub record Going (field : Field) (taken written : ℕ) (now : List ℕ) : Type 0 where
    pub text : List ℕ
    pub puts : Puts text m written now
    pub left : Left field taken written text
    pub within : written ≤ length m
    pub same : length now ≡ length m

  -- the text is within the memory, since all that the stretch writes is
  going_as : (field : Field) (taken written : ℕ) (now text : List ℕ) → Puts text m written now
      → Left field taken written text → Going field taken written now
  going_as field taken written now text p e =
      let fits : length text ≤ length m =
      omega (arith, rw (e, length-append) at (stretch-fits ratios (length m) begun input)) in
      record {
        text = text;
        puts = p;
        left = e;
        within = omega (arith, p.count);
        same = rw (p.memory, length-append, length-drop) (omega arith);
      }

  -- nothing taken and nothing written
  pub going-start : Going begun 0 0 m
  going-start =
      going_as begun 0 0 m [] (record { count = refl; memory = refl })
      (sym (rw behind_none (ap (λ n. stretched ratios n begun input) (omega arith))))

module _ {begun field : Field} {input m now : List ℕ} {taken written : ℕ}
    (g : Going begun input m field taken written now) where
  -- how much more may be written
  abbrev room : ℕ
  room = length m - written

  -- the rest of the memory, as it is lent, and the whole where it has come back as part
  abbrev lent : List ℕ
  lent = take (length now - written) (drop written now)

  abbrev back : List ℕ → List ℕ
  back part = take written now ++ (part ++ drop (length now - written) (drop written now))

  -- that what was taken and written so far is all
  abbrev Stops : Type 0
  Stops = Lists begun input m (record { taken = taken; written = written; field = field }) now

  -- what is left of the stretch takes nothing
  going_stopped : stretched ratios room field (drop taken input) ≡ untouched ratios field → Stops
  going_stopped e =
      let whole : stretched ratios (length m) begun input ≡ record { taken = taken; state = field; text = g.text } =
      g.left ∙ rw (e, add-zero, append-nil) in
      record {
        answer = rw (whole, g.puts.count);
        memory = rw whole g.puts.memory;
        read = rw whole at (stretch-read ratios (length m) begun input);
        fits = g.within;
        some = λ i r. rw whole at (stretch-some ratios (length m) begun input r i);
      }

  -- the input is at its end
  pub going-end : length input ≤ taken → Stops
  unfolding stretched
  going-end h = going_stopped (rw (drop_of_length-le input h))

  module _ (h : taken < length input) where
    -- what is left of the input: a byte, and the rest
    abbrev byte : ℕ
    byte = get_or input taken 0

    abbrev rest : List ℕ
    rest = drop (taken + 1) input

    input_left : drop taken input ≡ byte ∷ rest
    input_left = rw add-one (drop-cons input taken 0 h)

    -- a newline, and too little room for the answer: the rest of the memory comes back as it was
    pub going-full : {part : List ℕ} → None ≡ feed_of field byte → MayPut 130 (answer_of field) lent None part
        → Lists begun input m (record { taken = taken; written = written; field = field }) (back part)
    going-full e (l, p) =
        let few : room < 130 = rw (lent_part, length-drop, g.same) at l in
        rw (lent_back [] now written p, take-append-drop)
        (going_stopped (rw input_left (stretch-full ratios room field byte rest (feed-says field byte None e) few)))

    -- the byte is taken, and a is written
    going_on : (a : List ℕ) (next : Field) (w : ℕ) (l : List ℕ) → Puts (g.text ++ a) m w l
        → stretched ratios room field (byte ∷ rest) ≡ behind 1 a (stretched ratios (length m - w) next rest)
        → Going begun input m next (taken + 1) w l
    going_on a next w l p e =
        going_as begun input m next (taken + 1) w l (g.text ++ a) p
        (g.left ∙ rw (input_left, e) (behind-behind taken 1 g.text a (stretched ratios (length m - w) next rest)))

    -- a byte of a line
    pub going_fed : (next : Field) → Some next ≡ feed_of field byte → Going begun input m next (taken + 1) written now
    going_fed next e =
        let (other, fed) = feed-says field byte (Some next) e in
        going_on [] next written now (rw append-nil g.puts)
        (rw fed (stretch_feeds ratios room field byte rest other))

    -- a newline, and the answer is put into the rest of the memory
    pub going-answered : {n : ℕ} {part : List ℕ} → None ≡ feed_of field byte
        → MayPut 130 (answer_of field) lent (Some n) part
        → Going begun input m Empty (taken + 1) (written + n) (back part)
    going-answered {n} {part} e (l, p) =
        let r : 130 ≤ room = rw (lent_part, length-drop, g.same) at l in
        let smaller : room - length (answer_of field) ≡ length m - (written + n) = omega (arith, p.count) in
        going_on (answer_of field) Empty (written + n) _ (puts-text g.puts refl (answer_of field) part n p)
        (rw (← smaller) (stretch-answers ratios room field byte rest (feed-says field byte None e) r))
