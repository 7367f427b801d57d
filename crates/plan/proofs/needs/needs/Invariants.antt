use Rattle.net.specs.Checked.{records_of}
use Rattle.plan.specs.Tally.{Tallied}
use Rattle.plan.proofs.needs.needs.Given as goal

abbrev pub invariant-loop-index : goal.invariant-loop-index
invariant-loop-index l = Tallied (records_of l.route) l.marks l.index l.needs
