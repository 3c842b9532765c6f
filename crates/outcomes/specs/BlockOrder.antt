-- Keys stand as their blocks do, high words first.
use Rattle.std.specs.Prelude.{Bool, true, false, cond, ltb}
use Rattle.blocks.specs.declared.Block.{Block}

abbrev pub block_below : Block → Block → Bool
block_below a b =
    cond (ltb a.high b.high) true (cond (ltb b.high a.high) false (ltb a.low b.low))
