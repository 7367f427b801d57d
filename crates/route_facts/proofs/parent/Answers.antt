use Rattle.net.specs.Checked.{records_of}
use Rattle.net.proofs.Properly.{proper}
use Rattle.route_facts.proofs.Crossings.{leads_back}
use Rattle.route_facts.proofs.parent.Goals as goal

pub returns-in_err-record-clause-back : goal.returns-in_err-record-clause-back
returns-in_err-record-clause-back c = let r = c.args.route.now in leads_back r.grid (records_of r) (proper r)

pub returns-clause-back : goal.returns-clause-back
returns-clause-back c = let r = c.args.route.now in leads_back r.grid (records_of r) (proper r)
