use Rattle.std.proofs.Common.{◌≡◌, take, map}
use Rattle.std.specs.List.{range_with_len}
use Rattle.every_plan.specs.Crowds.{price_at}
use Rattle.every_plan.proofs.crowds.write_prices.Given as goal

abbrev pub invariant-loop-index : goal.invariant-loop-index
invariant-loop-index g l = take l.index l.prices ≡ map (price_at g.P.Cost g.P.Pricing.priced l.crowd) (range_with_len 0 l.index)
