use borrow.Author.Rules.{rules}
use Rattle.laws.proofs.Bounded.{same}
use Rattle.worst_tile.specs.WorstTiles.{worst_tiles}
use Rattle.worst_tile.proofs.as_cost.capped.Goals as goal

pub returns : goal.returns
returns c = same worst_tiles _ _ (search rules)
