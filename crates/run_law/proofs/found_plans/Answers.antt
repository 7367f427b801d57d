-- The laws of the kind are what the search's theorem asks for.
use Rattle.runs.specs.Plans.{prices_of}
use Rattle.run_law.proofs.found_plans.Goals as goal
use Rattle.run_law.proofs.Found.{found_plans}

pub returns : goal.returns
returns g c = found_plans (prices_of g.P.Cost g.P.Pricing.priced) g.met.P.Cost.lawful
