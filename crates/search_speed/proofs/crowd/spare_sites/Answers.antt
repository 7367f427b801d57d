use Rattle.std.proofs.Common.{rules}
use Rattle.search_speed.specs.Crowd.{crowd_spare}
use Rattle.search_speed.proofs.Filling.{filled}
use Rattle.search_speed.proofs.crowd.spare_sites.Goals as goal

pub returns : goal.returns
returns c = filled _ crowd_spare _ _ c.from_fn.ensures.items (λ k p x q h call. search rules)
