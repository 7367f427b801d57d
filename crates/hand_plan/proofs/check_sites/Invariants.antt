use Rattle.std.proofs.Common.{◌≡◌, None}
use Rattle.net.specs.Checked.{records_of}
use Rattle.net.specs.Lowest.{lowest}
use Rattle.length_rule.specs.Refusals.{site_fault}
use Rattle.hand_plan.proofs.check_sites.Given as goal

abbrev pub invariant-loop-index : goal.invariant-loop-index
invariant-loop-index l = lowest (site_fault (records_of l.route) l.spare l.marks) l.index ≡ None
