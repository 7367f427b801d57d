use Rattle.std.proofs.Common.{refl, arith}
use Rattle.counted.proofs.Clearing.{cleared_more}
use Rattle.counted.proofs.counted.clear.Goals as goal

pub loop-place-preserved : goal.loop-place-preserved
loop-place-preserved c =
    cleared_more c.loop-place.place-index c.args.places.now c.loop-place.places _ c.place-item.result c.loop-place.invariant (omega arith) refl refl
