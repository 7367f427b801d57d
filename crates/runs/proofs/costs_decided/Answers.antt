-- At a cost type each relation decides its answer.
use Rattle.runs.specs.Plans.{prices_of}
use Rattle.runs.proofs.costs_decided.Goals as goal
use Rattle.runs.proofs.Decided.{mixes, costs_decided}

pub returns : goal.returns
returns g c =
    let o = prices_of g.P.Cost g.P.Pricing.priced in
    record { mixes = λ choose w u k cells r. mixes o choose w k cells r u; costs = costs_decided o }
