use Rattle.std.proofs.Common.{◌≡◌, None}
use Rattle.net.specs.Checked.{records_of}
use Rattle.net.specs.Lowest.{lowest}
use Rattle.length_rule.specs.Refusals.{gate_fault}
use Rattle.hand_plan.proofs.check_gates.Given as goal

abbrev pub invariant-loop-index : goal.invariant-loop-index
invariant-loop-index l = lowest (gate_fault l.limit.value (records_of l.route) l.marks) l.index ≡ None
