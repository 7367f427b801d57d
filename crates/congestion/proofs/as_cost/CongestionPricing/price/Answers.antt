use native.Mathlib.Omega.{arith}
use Rattle.congestion.proofs.Ceiling.{price_fits}
use Rattle.congestion.proofs.as_cost.CongestionPricing.price.Goals as goal

pub invariant_of-result : goal.invariant_of-result
invariant_of-result c = record { ok = omega (arith, c.fraction.ensures.price, price_fits c.args.capacity c.args.used c.args.share c.requires (omega arith) (omega arith)) }
