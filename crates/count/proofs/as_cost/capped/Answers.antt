use borrow.Author.Rules.{rules}
use Rattle.laws.proofs.Bounded.{same}
use Rattle.count.specs.Counts.{counts}
use Rattle.count.proofs.as_cost.capped.Goals as goal

pub returns : goal.returns
returns c = same counts _ _ (search rules)
