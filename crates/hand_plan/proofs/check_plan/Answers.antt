use Rattle.std.proofs.Common.{rules}
use Rattle.net.specs.Checked.{records_of}
use Rattle.net.proofs.Properly.{proper}
use Rattle.length_rule.proofs.Accepts.{exactly}
use Rattle.hand_plan.proofs.check_plan.Goals as goal

pub returns-clause-exactly : goal.returns-clause-exactly
returns-clause-exactly c = exactly c.args.limit.value (records_of c.args.route.now) c.args.spare.now c.args.marks.now (proper c.args.route.now).some c.check_in_order.result (search rules)
