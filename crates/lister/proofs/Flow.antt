-- One passage after another, from an unread input and an empty buffer to the end.
use Rattle.std.specs.Prelude.{◌≡◌, refl, List, [], ◌++◌, ℕ, ◌+◌, ◌≤◌, ◌<◌, length, Option, Some, None, Result, Ok}
use Rattle.std.specs.Prelude.{Err, OnOk, MatchResult, is_ok, true}
use Rattle.std.proofs.Common.{sym, ◌∙◌, arith, append_assoc, append-nil, length-append}
use Rattle.std.specs.Io.KnownBytes.{Appends, Consumes, IsAtEnd}
use Rattle.fields.specs.declared.Field.{Field}
use Rattle.fields.specs.declared.Field.TheVariants.{Empty}
use Rattle.lines.specs.Machines.{whole, run}
use Rattle.list.specs.Ratios.{ratios}
use Rattle.list.proofs.Lines.{listing-run}
use Rattle.outcomes.specs.Listing.{listing}
use Rattle.lister.specs.Flow.{Passes, Answers, ListsPart, WritesAll, WritesListing}

pub appends_none : (o : Option (List ℕ)) → Appends o o []
appends_none None = tt
appends_none (Some xs) = sym (append-nil xs)

pub appends_both : (o m n : Option (List ℕ)) (a b : List ℕ) → Appends o m a → Appends m n b → Appends o n (a ++ b)
appends_both None m n a b e f = tt
appends_both (Some x) None n a b e f = absurd e
appends_both (Some x) (Some y) None a b e f = absurd f
appends_both (Some x) (Some y) (Some z) a b e f = rw (f, e, append_assoc)

consumes_none : (o : Option (List ℕ)) → Consumes o o []
consumes_none None = tt
consumes_none (Some xs) = refl

consumes_both : (o m n : Option (List ℕ)) (a b : List ℕ) → Consumes o m a → Consumes m n b → Consumes o n (a ++ b)
consumes_both None m n a b e f = tt
consumes_both (Some x) None n a b e f = absurd e
consumes_both (Some x) (Some y) None a b e f = absurd f
consumes_both (Some x) (Some y) (Some z) a b e f = rw (e, f, append_assoc)

-- nothing goes
pub passes_none : (o : Option (List ℕ)) (waits : List ℕ) → Passes o o waits [] waits
passes_none o waits = record { gone = []; written = appends_none o; rest = append-nil waits }

-- all that waits goes
pub passes_all : {o n : Option (List ℕ)} {waits : List ℕ} → Appends o n waits → Passes o n waits [] []
passes_all {o} {n} {waits} e = record { gone = waits; written = e; rest = refl }

-- two texts, one after the other
pub passes_both : {o m n : Option (List ℕ)} {w t v u x : List ℕ} → Passes o m w t v → Passes m n v u x
    → Passes o n w (t ++ u) x
passes_both {o} {m} {n} {w} {t} {v} {u} {x} p q =
    record {
      gone = p.gone ++ q.gone;
      written = appends_both o m n p.gone q.gone p.written q.written;
      rest = rw (← append_assoc, p.rest, append_assoc p.gone v u, q.rest, append_assoc);
    }

-- a text that comes behind what waits
pub passes_behind : (o : Option (List ℕ)) {w t v : List ℕ} → v ≡ w ++ t → Passes o o w t v
passes_behind o e = record { gone = []; written = appends_none o; rest = sym e }

-- what waits is written
pub passes-written : {o m : Option (List ℕ)} {w v : List ℕ} (n : Option (List ℕ)) (t : List ℕ) → Passes o m w [] v
    → Appends m n (v ++ t) → Appends o n (w ++ t)
passes-written {o} {m} {w} {v} n t p e =
    rw (sym (append-nil w) ∙ p.rest, append_assoc) (appends_both o m n p.gone (v ++ t) p.written e)

-- what is left of a part is answered next
pub answers_left : {s s' s'' : Field} {p l m a b : List ℕ} → Answers s p a s' l → Answers s' l b s'' m
    → Answers s p (a ++ b) s'' m
answers_left f g = record { all = λ t. rw (f.all t, g.all t, append_assoc) }

-- one part after another
pub answers_both : {s s' s'' : Field} {p q a b : List ℕ} → Answers s p a s' [] → Answers s' q b s'' []
    → Answers s (p ++ q) (a ++ b) s'' []
answers_both {p = p} {q = q} f g = record { all = λ t. rw (append_assoc p q t, f.all (q ++ t), g.all t, append_assoc) }

-- Some of the input was read, some turns were made, and what was read is answered: that is with the writer, or waits.
module _ (unread first : Option (List ℕ)) (begun : Field) (waited : List ℕ) where
  pub record Reached (left now : Option (List ℕ)) (s : Field) (waits : List ℕ) (turns : ℕ) : Type 0 where
    pub fed : List ℕ
    pub text : List ℕ
    pub read : Consumes unread left fed
    pub some : turns ≤ length fed
    pub answers : Answers begun fed text s []
    pub passes : Passes first now waited text waits

  pub reached_start : Reached unread first begun waited 0
  reached_start =
      record {
        fed = [];
        text = [];
        read = consumes_none unread;
        some = omega arith;
        answers = record { all = λ t. refl };
        passes = passes_none first waited;
      }

module _ {unread first : Option (List ℕ)} {begun : Field} {waited : List ℕ} {left now : Option (List ℕ)} {s : Field}
    {waits : List ℕ} {n : ℕ} (reached : Reached unread first begun waited left now s waits n)
    (left' now' : Option (List ℕ)) where
  -- a turn more
  pub reached_more : {s' : Field} {v p : List ℕ} → Consumes left left' p → 1 ≤ length p
      → ListsPart now now' s p waits s' v → Reached unread first begun waited left' now' s' v (n + 1)
  reached_more {s'} {v} {p} e l lists =
      record {
        fed = reached.fed ++ p;
        text = reached.text ++ lists.text;
        read = consumes_both unread left left' reached.fed p reached.read e;
        some = omega (arith, reached.some, length-append reached.fed p);
        answers = answers_both reached.answers lists.answers;
        passes = passes_both reached.passes lists.passes;
      }

  -- the input is read, and what waits is written, and behind it what the end of the input gives
  pub writes_end : (room : ℕ) → Consumes left left' [] → (0 < room → IsAtEnd left')
      → Appends now now' (waits ++ whole ratios s []) → WritesAll unread room first now' waited begun
  writes_end room e at_end wrote = by_cases unread left left' reached.read e at_end
    where
      all : Appends first now' (waited ++ whole ratios begun (reached.fed ++ []))
      all =
          rw (reached.answers.all [], ← append_assoc, reached.passes.rest, append_assoc)
          (appends_both first now now' reached.passes.gone (waits ++ whole ratios s []) reached.passes.written wrote)

      by_cases : (o r r' : Option (List ℕ)) → Consumes o r reached.fed → Consumes r r' [] → (0 < room → IsAtEnd r')
          → WritesAll o room first now' waited begun
      by_cases None r r' e f g = tt
      by_cases (Some xs) None r' e f g = absurd e
      by_cases (Some xs) (Some ys) None e f g = absurd f
      by_cases (Some xs) (Some ys) (Some zs) e f g = λ h l. rw (e, f, g h) all

whole_listing : (xs : List ℕ) → whole ratios Empty xs ≡ listing xs
unfolding run
whole_listing xs = listing-run xs []

-- from an empty buffer on, the whole listing is written
pub writes_listing : (unread old new : Option (List ℕ)) (room : ℕ) → 0 < room → WritesAll unread room old new [] Empty
    → WritesListing unread old new
writes_listing None old new room h w = tt
writes_listing (Some xs) old new room h w = λ l. rw (← whole_listing xs) (w h l)

pub on_ok : {T E P Q : Type 0} (r : Result T E) → OnOk r P → (P → Q) → OnOk r Q
on_ok (Ok x) p f = f p
on_ok (Err e) p f = tt

-- what an error was made of otherwise gave what it gives
pub ok_before : {T E D : Type 0} (P : E → Type 0) (q : Result T E) {r : Result T D} {x : T}
    → MatchResult q (λ y. r ≡ Ok y) P → is_ok r ≡ is_ok q → r ≡ Ok x → q ≡ Ok x
ok_before P (Ok y) h same e = cc
ok_before P (Err y) {r} h same e = let ok : is_ok r ≡ true = rw e refl in cc
