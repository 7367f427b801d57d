use Rattle.std.proofs.Common.{Ok, rules}
use Rattle.net.proofs.Properly.{exactly}
use Rattle.net.proofs.records.Route.check.Goals as goal

pub returns-in_err-check_records-clause-exactly : goal.returns-in_err-check_records-clause-exactly
returns-in_err-check_records-clause-exactly c = exactly c.args.grid c.args.records.now c.from_residual.result (search rules)

pub returns-clause-exactly : goal.returns-clause-exactly
returns-clause-exactly c = exactly c.args.grid c.args.records.now (Ok c.in_ok-check_records.field-0) c.in_ok-check_records.ensures
