use Rattle.std.proofs.Common.{◌≡◌, None}
use Rattle.net.specs.Lowest.{lowest}
use Rattle.length_rule.specs.Refusals.{mark_fault}
use Rattle.hand_plan.proofs.check_marks.Given as goal

abbrev pub invariant-loop-index : goal.invariant-loop-index
invariant-loop-index l = lowest (mark_fault l.marks) l.index ≡ None
