use Rattle.net.proofs.Faults.{no_parent_marked}
use Rattle.net.proofs.records.scan.mark_parents.Goals as goal

pub loop-k-init : goal.loop-k-init
loop-k-init c = no_parent_marked c.args.records.now
