use Rattle.std.proofs.Common.{◌≡◌}
use Rattle.net.specs.Checked.{records_of}
use Rattle.length_rule.specs.Costs.{cost_below}
use Rattle.plan_cost.proofs.plan_cost.Given as goal

abbrev pub invariant-loop-index : goal.invariant-loop-index
invariant-loop-index g l = l.sum ≡ cost_below g.P.Cost.nothing g.P.Cost.plus (records_of l.route) l.prices l.marks l.index
