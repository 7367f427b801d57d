use borrow.Author.Rules.{rules}
use Rattle.laws.proofs.Bounded.{same}
use Rattle.congestion.specs.Congestions.{congestions}
use Rattle.congestion.proofs.as_cost.capped.Goals as goal

pub returns : goal.returns
returns c = same congestions _ _ (search rules)
