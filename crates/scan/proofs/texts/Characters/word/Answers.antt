-- The run that is counted says what is taken. Where a turned word is due, zeros alone behind it are the end.
use Rattle.std.specs.Prelude.{◌≡◌, Bool, false}
use Rattle.std.proofs.Common.{sym, ◌∙◌, ap, arith}
use Rattle.families.specs.Families.{ended}
use Rattle.scan.proofs.Taking.{taken-ended}
use Rattle.scan.specs.Characters.{bits_read}
use Rattle.scan.proofs.Characters.{ended-after, run_long, run-word}
use Rattle.scan.proofs.texts.Characters.word.Goals as goal
use Rattle.scan.proofs.texts.Characters.word.Goals.{Joined-else-self}
use Rattle.scan.proofs.texts.Characters.word.Goals.{else-self-via-then-self+else-zeros_from, else-self-via-else-self}

pub returns-then-zeros_from : goal.returns-then-zeros_from
returns-then-zeros_from c =
    let k = c.args.self.text.now in
    let z = c.args.self.turned in
    let zeros = ended-after k z c.run-r.result c.if-self.true (omega arith) c.zeros_from.ensures in
    sym (taken-ended z (bits_read k z) (zeros ∙ c.if-zeros_from.true))

going : (c : Joined-else-self) → let z = c.args.self.turned in ended z (bits_read c.args.self.text.now z) ≡ false
going c =
    let k = c.args.self.text.now in
    let z = c.args.self.turned in
    elim c.else-self.branch [
      | else-self-via-then-self+else-zeros_from w ↦
          ended-after k z c.run-r.result w.if-self.true (omega arith) w.zeros_from.ensures ∙ w.if-zeros_from.false
      | else-self-via-else-self w ↦ ap (λ (b : Bool). ended b (bits_read k b)) w.if-self.false
    ]

pub returns-then-r-gt31 : goal.returns-then-r-gt31
returns-then-r-gt31 c =
    let z = c.args.self.turned in
    let goes = going (goal.at.returns-then-r-gt31 c).Joined-else-self in
    run_long z (bits_read c.args.self.text.now z) goes c.run-r.ensures.ones (omega arith)

pub returns : goal.returns
returns c =
    let z = c.args.self.turned in
    let goes = going (goal.at.returns c).Joined-else-self in
    rw c.number.ensures (run-word z (bits_read c.args.self.text.now z) goes c.run-r.ensures.ones (omega arith))
