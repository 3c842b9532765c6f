-- One more one is counted.
use Rattle.std.proofs.Common.{◌^◌, refl, arith, pow-add, pow_pos}
use Rattle.scan.specs.Runs.{next_one}
use Rattle.scan.proofs.words.run.Goals as goal

pub loop-n-preserved : goal.loop-n-preserved
loop-n-preserved c =
    let l = c.loop-n in
    let next =
    next_one (2 ^ l.n) (2 ^ 64) (2 ^ 63) c.args.w l.left refl (omega arith) (pow_pos l.n) (omega arith) l.invariant.0 in
    (rw (pow-add 2 l.n 1) next, omega arith)
