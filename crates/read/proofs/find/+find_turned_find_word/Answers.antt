-- Each way out is one step of reading, by `proofs/Steps.antt`. A word takes a character at least, and a turned word
-- begins within the 96, so the measures fall.
use Rattle.std.proofs.Common.{ℕ, true, false, ◌<◌, arith}
use Rattle.blocks.proofs.Laws.{block-length}
use Rattle.read.specs.Finding.{bits_in}
use Rattle.read.proofs.Steps.{found-end, found_long, Makes, word_size, makes-within, found_over, found_on}
use Rattle.read.proofs.find.+find_turned_find_word.Goals as goal
use Rattle.read.proofs.find.+find_turned_find_word.Goals.{find_turned-Else-w-eq0, find_word-Else-w-eq0}

pub find_turned-returns-then-w-eq0 : goal.find_turned-returns-then-w-eq0
find_turned-returns-then-w-eq0 t c =
    found_over (record { taken = rw c.in-Ok-Some.field-0-is at c.in-Ok-Some.ensures; made = c.next-w.ensures }) (omega arith) c.if-w-eq0.true
    (omega arith)

-- the turned word that was taken, and the convergent that it makes
turned_makes : (t : ℕ) (c : find_turned-Else-w-eq0 t) → let b = c.args in let w = c.in-Ok-Some.word in
    Makes (bits_in b.high b.low) b.used true b.u b.v w.value w.characters c.next-w.result
turned_makes t c = record { taken = rw c.in-Ok-Some.field-0-is at c.in-Ok-Some.ensures; made = c.next-w.ensures }

pub find_turned-overflow_add-used : goal.find_turned-overflow_add-used
find_turned-overflow_add-used t c =
    let (l, h) = word_size (turned_makes t (goal.at.find_turned-overflow_add-used t c).Else-w-eq0) in
    record { fits = omega arith }

pub find_turned-find_word-requires : goal.find_turned-find_word-requires
find_turned-find_word-requires t c =
    let g = turned_makes t (goal.at.find_turned-find_word-requires t c).Else-w-eq0 in
    let (l, h) = word_size g in
    let within : c.args.used < 96 = rw (block-length _) at (makes-within g) in
    (omega arith, record { few = omega arith; some = omega arith })

pub find_turned-returns-else-w-eq0 : goal.find_turned-returns-else-w-eq0
find_turned-returns-else-w-eq0 t c =
    found_on (record { taken = rw c.in-Ok-Some.field-0-is at c.in-Ok-Some.ensures; made = c.next-w.ensures }) (omega arith) c.find_word.ensures

pub find_turned-returns-in-Err : goal.find_turned-returns-in-Err
find_turned-returns-in-Err t c =
    found_long c.in-Err.ensures (omega arith) (omega arith)

pub find_turned-returns-in-Ok-None : goal.find_turned-returns-in-Ok-None
find_turned-returns-in-Ok-None t c =
    found-end (rw c.in-Ok-None.field-0-is at c.in-Ok-None.ensures) (omega arith)

pub find_word-returns-then-w-eq0 : goal.find_word-returns-then-w-eq0
find_word-returns-then-w-eq0 t c =
    found_over (record { taken = rw c.in-Ok-Some.field-0-is at c.in-Ok-Some.ensures; made = c.next-w.ensures }) (omega arith) c.if-w-eq0.true
    (omega arith)

-- the word that was taken, and the convergent that it makes
word_makes : (t : ℕ) (c : find_word-Else-w-eq0 t) → let b = c.args in let w = c.in-Ok-Some.word in
    Makes (bits_in b.high b.low) b.used false b.u b.v w.value w.characters c.next-w.result
word_makes t c = record { taken = rw c.in-Ok-Some.field-0-is at c.in-Ok-Some.ensures; made = c.next-w.ensures }

pub find_word-overflow_add-used : goal.find_word-overflow_add-used
find_word-overflow_add-used t c =
    let (l, h) = word_size (word_makes t (goal.at.find_word-overflow_add-used t c).Else-w-eq0) in
    record { fits = omega arith }

pub find_word-find_turned-requires : goal.find_word-find_turned-requires
find_word-find_turned-requires t c =
    let g = word_makes t (goal.at.find_word-find_turned-requires t c).Else-w-eq0 in
    let (l, h) = word_size g in
    (omega arith, record { few = omega arith; some = omega arith })

pub find_word-returns-else-w-eq0 : goal.find_word-returns-else-w-eq0
find_word-returns-else-w-eq0 t c =
    found_on (record { taken = rw c.in-Ok-Some.field-0-is at c.in-Ok-Some.ensures; made = c.next-w.ensures }) (omega arith) c.find_turned.ensures

pub find_word-returns-in-Err : goal.find_word-returns-in-Err
find_word-returns-in-Err t c =
    found_long c.in-Err.ensures (omega arith) (omega arith)

pub find_word-returns-in-Ok-None : goal.find_word-returns-in-Ok-None
find_word-returns-in-Ok-None t c =
    found-end (rw c.in-Ok-None.field-0-is at c.in-Ok-None.ensures) (omega arith)
