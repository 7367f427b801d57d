use Rattle.std.proofs.Common.{◌≤◌}
use Rattle.net.specs.Checked.{records_of}
use Rattle.plan.specs.Walk.{Walked}
use Rattle.plan.proofs.lengths.hanging.Given as goal

abbrev pub invariant-loop-index : goal.invariant-loop-index
invariant-loop-index l = Walked (records_of l.route) l.marks l.index l.lengths × (1 ≤ l.index)
