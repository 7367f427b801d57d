use Rattle.stacks.specs.Under.{one_closed}
use Rattle.stacks.proofs.layered.close_one.Goals as goal

pub returns-clause-marked : goal.returns-clause-marked
unfolding one_closed
returns-clause-marked g c = cc
