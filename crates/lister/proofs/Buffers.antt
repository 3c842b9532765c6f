-- What an answer that is there tells of the buffers, and a stretch of two parts, each from a place on.
use Rattle.std.specs.Prelude.{◌≡◌, List, ℕ, ◌+◌, ◌-◌, ◌≤◌, ◌<◌, length, take, drop, Result, Ok, IfOk}
use Rattle.std.proofs.Common.{arith, length-drop}
use Rattle.bits.proofs.Memory.{lent_part}
use Rattle.fields.specs.declared.Field.{Field}
use Rattle.list.specs.declared.Listed.{Listed}
use Rattle.list.specs.Listing.{Lists}
use Rattle.lister.specs.declared.Stopped.{Stopped}

abbrev pub HasRoom : ℕ → Result ℕ Stopped → Type 0
HasRoom n r = IfOk r (λ held. held + 130 ≤ n)

-- something of a part of size bytes is taken from at on, and what is written from held on is within n
pub record ListsFrom (at size held n : ℕ) (r : Listed) : Type 0 where
  pub some : 1 ≤ r.taken
  pub read : at + r.taken ≤ size
  pub fits : held + r.written ≤ n

pub room-left : (n : ℕ) {r : Result ℕ Stopped} {held : ℕ} → r ≡ Ok held → HasRoom n r → held + 130 ≤ n
room-left n e h = rw e at h

pub lists_from : (at held : ℕ) (part out : List ℕ) {s : Field} {r : Listed} {e : List ℕ} → at < length part
    → held + 130 ≤ length out
    → Lists s (take (length part - at) (drop at part)) (take (length out - held) (drop held out)) r e
    → ListsFrom at (length part) held (length out) r
lists_from at held part out h k lists =
    let left : length (take (length part - at) (drop at part)) ≡ length part - at =
    rw lent_part (length-drop at part) in
    let free : length (take (length out - held) (drop held out)) ≡ length out - held =
    rw lent_part (length-drop held out) in
    record {
      some = lists.some (omega arith) (omega arith);
      read = omega (arith, lists.read);
      fits = omega (arith, lists.fits);
    }
