use Rattle.net.specs.Marks.{ParentsMarked}
use Rattle.net.proofs.records.scan.mark_parents.Given as goal

abbrev pub invariant-loop-k : goal.invariant-loop-k
invariant-loop-k l = ParentsMarked l.records l.k l.parents
