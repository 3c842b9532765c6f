-- One step of repeated remainder.
use Rattle.std.proofs.Common.{sym, ◌∙◌, ◌/◌, ◌%◌, arith}
use native.Mathlib.Nat.{div-add-mod', mod-lt}
use Rattle.fractions.proofs.Euclid.{gcd-end, gcd-step}
use Rattle.reduce.proofs.+greatest_divisor.Goals as goal

pub returns-then-b-eq0 : goal.returns-then-b-eq0
returns-then-b-eq0 t c = rw c.if-b-eq0.true (sym (gcd-end c.args.a))

pub returns : goal.returns
returns t c =
    let a = c.args.a in
    let b = c.args.b in
    c.greatest_divisor.ensures
    ∙ sym (gcd-step a b (a / b) (a % b) (sym (div-add-mod' a b)) (mod-lt a (omega (arith, c.if-b-eq0.false))))
