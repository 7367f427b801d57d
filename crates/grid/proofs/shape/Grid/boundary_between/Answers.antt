use Rattle.grid.proofs.Pairs.{counted, tells_pair}
use Rattle.grid.proofs.shape.Grid.boundary_between.Goals as goal

pub returns-in_err-p-clause-counted : goal.returns-in_err-p-clause-counted
returns-in_err-p-clause-counted c = counted c.args.self

pub returns-in_err-p-clause-tells_pair : goal.returns-in_err-p-clause-tells_pair
returns-in_err-p-clause-tells_pair c = tells_pair c.args.self

pub returns-in_err-q-clause-counted : goal.returns-in_err-q-clause-counted
returns-in_err-q-clause-counted c = counted c.args.self

pub returns-in_err-q-clause-tells_pair : goal.returns-in_err-q-clause-tells_pair
returns-in_err-q-clause-tells_pair c = tells_pair c.args.self

pub returns-clause-counted : goal.returns-clause-counted
returns-clause-counted c = counted c.args.self

pub returns-clause-tells_pair : goal.returns-clause-tells_pair
returns-clause-tells_pair c = tells_pair c.args.self
