use Rattle.std.proofs.Common.{refl, zero-le}
use Rattle.open_stock.specs.Soundness.{small_replicate}
use Rattle.open_stock.proofs.wide.OpenStock.new.Goals as goal

pub invariant_of-result : goal.invariant_of-result
invariant_of-result c = record { each = refl; small = λ place. small_replicate 8192 0 place zero-le }
