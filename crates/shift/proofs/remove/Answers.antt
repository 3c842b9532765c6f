-- Those behind the row are lowered, and zeros are put.
use Rattle.std.proofs.Common.{◌≡◌, ◌-◌, ◌*◌, take, drop, length, arith, length-drop, length-take-le}
use Rattle.shift.specs.Shifting.{removed}
use Rattle.shift.proofs.remove.Goals as goal

pub returns : goal.returns
returns c =
    let row : 12 * c.args.used - 12 * (c.args.used - 1) ≡ 12 = omega arith in
    let size : length (take 12 (drop (12 * (c.args.used - 1)) c.copy_within.new.self)) ≡ 12 =
    length-take-le 12 _ (rw length-drop (omega (arith, c.copy_within.ensures.len))) in
    let zeros = rw (row, size) at c.fill.ensures.after (λ y h. h) in
    removed _ _ _ (omega arith) (omega arith) c.copy_within.ensures.after (rw (row, zeros))
