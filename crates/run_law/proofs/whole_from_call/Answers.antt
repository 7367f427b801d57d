-- The whole law from one call.
use Rattle.runs.specs.Plans.{prices_of}
use Rattle.run_law.proofs.whole_from_call.Goals as goal
use Rattle.run_law.proofs.Whole.{whole_from_call}

pub returns : goal.returns
returns g c = λ choose. whole_from_call (prices_of g.P.Cost g.P.Pricing.priced) choose
