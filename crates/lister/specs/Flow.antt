-- How the input becomes the listing through the buffers: what is read is answered into the output buffer, behind what
-- waits there, and what waits goes from the front to the writer.
use Rattle.std.specs.Prelude.{◌≡◌, List, [], ◌++◌, ℕ, ◌-◌, ◌^◌, ◌≤◌, ◌<◌, length, drop, Option, IfSome}
use Rattle.std.specs.Io.KnownBytes.{Appends}
use Rattle.fields.specs.declared.Field.{Field}
use Rattle.lines.specs.Machines.{whole}
use Rattle.list.specs.Ratios.{ratios}
use Rattle.outcomes.specs.Listing.{listing}

-- A text came behind what waited, some went from the front to the writer, and the rest waits.
pub record Passes (old new : Option (List ℕ)) (waited text waits : List ℕ) : Type 0 where
  pub gone : List ℕ
  pub written : Appends old new gone
  pub rest : waited ++ text ≡ gone ++ waits

-- What is written from the field s on for an input that begins with part: a text, and then what is written from the
-- field s' on for what is left of part and the rest of the input.
pub record Answers (s : Field) (part text : List ℕ) (s' : Field) (left : List ℕ) : Type 0 where
  pub all : (t : List ℕ) → whole ratios s (part ++ t) ≡ text ++ whole ratios s' (left ++ t)

-- Something of a part is listed, and taken bytes of it are.
pub record ListsSome (old new : Option (List ℕ)) (s : Field) (part waited : List ℕ) (taken : ℕ) (s' : Field)
    (waits : List ℕ) : Type 0 where
  pub some : 1 ≤ taken
  pub within : taken ≤ length part
  pub text : List ℕ
  pub answers : Answers s part text s' (drop taken part)
  pub passes : Passes old new waited text waits

-- All of a part is listed.
pub record ListsPart (old new : Option (List ℕ)) (s : Field) (part waited : List ℕ) (s' : Field) (waits : List ℕ)
    : Type 0 where
  pub text : List ℕ
  pub answers : Answers s part text s' []
  pub passes : Passes old new waited text waits

-- The writer got what waited, and then what is written from the field s on for all that the reader had, if there is
-- room to read into. The turns of 64 bits suffice for fewer bytes than they are.
abbrev pub WritesAll : Option (List ℕ) → ℕ → Option (List ℕ) → Option (List ℕ) → List ℕ → Field → Type 0
WritesAll unread room old new waited s =
    IfSome unread (λ input. 0 < room → length input < 2 ^ 64 - 1 → Appends old new (waited ++ whole ratios s input))

-- The writer got the listing of all that the reader had.
abbrev pub WritesListing : Option (List ℕ) → Option (List ℕ) → Option (List ℕ) → Type 0
WritesListing unread old new = IfSome unread (λ input. length input < 2 ^ 64 - 1 → Appends old new (listing input))
