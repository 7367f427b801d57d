use native.Mathlib.Omega.{arith}
use Rattle.worst_tile.proofs.Ceiling.{price_fits}
use Rattle.worst_tile.proofs.as_cost.WorstTilePricing.price.Goals as goal

pub overflow_cast-result : goal.overflow_cast-result
overflow_cast-result c = omega (arith, c.fraction.ensures.price, price_fits c.args.capacity c.args.used 0 c.requires)

pub invariant_of-result : goal.invariant_of-result
invariant_of-result c = record { ok = omega (arith, c.fraction.ensures.price, price_fits c.args.capacity c.args.used 0 c.requires) }
