-- What a call of list adds to the buffer, of which it is lent what stands behind the bytes that wait.
use Rattle.std.specs.Prelude.{◌≡◌, List, [], ◌++◌, ℕ, ◌+◌, ◌-◌, ◌≤◌, length, take, drop, Option}
use Rattle.std.proofs.Common.{arith, append_assoc, length-append, length-drop, length-take-le}
use Rattle.std.proofs.Math.Seq.{take-append_seam}
use Rattle.bits.specs.Texts.{in_front}
use Rattle.bits.proofs.Memory.{lent_part, lent_back}
use Rattle.fields.specs.declared.Field.{Field}
use Rattle.lines.specs.Machines.{Stretch, stretched, lacking, whole}
use Rattle.lines.proofs.Stretches.{stretch-rest, lacking_said}
use Rattle.list.specs.declared.Listed.{Listed}
use Rattle.list.specs.Listing.{Lists, listed_as}
use Rattle.list.specs.Ratios.{ratios}
use Rattle.lister.specs.Flow.{Passes, ListsSome}
use Rattle.lister.proofs.Flow.{passes_both, passes_behind}

-- what stood before the place, and a text behind it
front_of : (w t rest : List ℕ) (n : ℕ) → n ≡ length w + length t → take n (w ++ (t ++ rest)) ≡ w ++ t
front_of w t rest n e = rw (e, ← append_assoc w t rest, ← length-append w t) (take-append_seam (w ++ t) rest)

-- the part of a buffer of size bytes that is lent to a call, and the whole buffer after it
abbrev lent : ℕ → ℕ → List ℕ → List ℕ
lent size held out = take (size - held) (drop held out)

abbrev back : ℕ → ℕ → List ℕ → List ℕ → List ℕ
back size held out e = take held out ++ (e ++ drop (size - held) (drop held out))

free : (held : ℕ) (out : List ℕ) → held + 130 ≤ length out → 130 ≤ length (lent (length out) held out)
free held out h = rw lent_part (omega (arith, length-drop held out))

module _ (held : ℕ) (out : List ℕ) {e : List ℕ} where
  front-back : (t : List ℕ) → held ≤ length out → e ≡ in_front t (lent (length out) held out)
      → take (held + length t) (back (length out) held out e) ≡ take held out ++ t
  front-back t h made =
      rw (lent_back t out held made)
      (front_of (take held out) t (drop (length t) (drop held out)) (held + length t)
      (omega (arith, length-take-le held out h)))

  module _ {s : Field} {r : Listed} where
    some : {o n : Option (List ℕ)} {s' : Field} {w part : List ℕ} → 1 ≤ length part → held + 130 ≤ length out → s ≡ s'
        → Passes o n w [] (take held out) → Lists s part (lent (length out) held out) r e
        → ListsSome o n s' part w r.taken r.field (take (held + r.written) (back (length out) held out e))
    some {n = n} {part = part} l h same p lists =
        let room = length (lent (length out) held out) in
        let st : Stretch Field = stretched ratios room s part in
        let is : r ≡ listed_as st = lists.answer in
        let some : 1 ≤ r.taken = lists.some l (free held out h) in
        rw (← same, is) (record {
          some = rw is at some;
          within = rw is at lists.read;
          text = st.text;
          answers = record { all = stretch-rest ratios room s part };
          passes = passes_both p (passes_behind n (front-back st.text (omega arith) lists.memory));
        })

    last : held + 130 ≤ length out → Lists s (lacking ratios s) (lent (length out) held out) r e
        → take (held + r.written) (back (length out) held out e) ≡ take held out ++ whole ratios s []
    last h lists =
        let room = length (lent (length out) held out) in
        let said : (stretched ratios room s (lacking ratios s)).text ≡ whole ratios s [] =
        lacking_said ratios room s (free held out h) in
        let made : e ≡ in_front (whole ratios s []) (lent (length out) held out) = rw said at lists.memory in
        rw (lists.answer, said) (front-back (whole ratios s []) (omega arith) made)

    module _ {size : ℕ} (same : length out ≡ size) where
      pub lists_some : {o n : Option (List ℕ)} {s' : Field} {w part : List ℕ} → 1 ≤ length part → held + 130 ≤ size
          → s ≡ s' → Passes o n w [] (take held out) → Lists s part (lent size held out) r e
          → ListsSome o n s' part w r.taken r.field (take (held + r.written) (back size held out e))
      lists_some l h f p lists = rw same at (some l (omega arith) f p (rw (← same) at lists))

      pub lists_last : held + 130 ≤ size → Lists s (lacking ratios s) (lent size held out) r e
          → take (held + r.written) (back size held out e) ≡ take held out ++ whole ratios s []
      lists_last h lists = rw same at (last (omega arith) (rw (← same) at lists))
