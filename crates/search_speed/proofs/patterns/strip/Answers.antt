use Rattle.std.proofs.Common.{rules}
use Rattle.search_speed.specs.Patterns.{strip_record}
use Rattle.search_speed.proofs.Filling.{filled}
use Rattle.search_speed.proofs.patterns.strip.Goals as goal

pub returns : goal.returns
returns c = filled _ strip_record _ _ c.from_fn.ensures.items (λ k p x q h call. search rules)
