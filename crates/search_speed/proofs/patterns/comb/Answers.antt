use Rattle.std.proofs.Common.{rules}
use Rattle.search_speed.specs.Patterns.{comb_record}
use Rattle.search_speed.proofs.Filling.{filled}
use Rattle.search_speed.proofs.patterns.comb.Goals as goal

pub returns : goal.returns
returns c = filled _ comb_record _ _ c.from_fn.ensures.items (λ k p x q h call. search rules)
