use Rattle.std.proofs.Common.{rules}
use Rattle.search_speed.specs.Crowd.{crowd_price}
use Rattle.search_speed.proofs.Filling.{filled}
use Rattle.search_speed.proofs.crowd.prices.Goals as goal

pub returns : goal.returns
returns c = filled _ crowd_price _ _ c.from_fn.ensures.items (λ k p x q h call. search rules)
