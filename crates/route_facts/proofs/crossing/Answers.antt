use Rattle.std.proofs.Common.{length, sym, ap, arith}
use Rattle.net.specs.Checked.{records_of}
use Rattle.net.proofs.Properly.{proper}
use Rattle.route_facts.proofs.Crossings.{told_in, crosses_each, crossings_apart}
use Rattle.route_facts.proofs.crossing.Goals as goal

pub returns-in_err-parent-clause-each : goal.returns-in_err-parent-clause-each
returns-in_err-parent-clause-each c = let r = c.args.route.now in crosses_each r.grid (records_of r) (proper r)

pub returns-in_err-parent-clause-apart : goal.returns-in_err-parent-clause-apart
returns-in_err-parent-clause-apart c = let r = c.args.route.now in crossings_apart r.grid (records_of r) (proper r)

pub offset_bounds-records-parent : goal.offset_bounds-records-parent
offset_bounds-records-parent c =
    let r = c.args.route.now in
    omega (arith, told_in r.grid (records_of r) (proper r) c.args.index c.in_ok-parent.parent (sym c.in_ok-parent.ensures.answer), (proper r).not_many)

pub bounds-records-parent : goal.bounds-records-parent
bounds-records-parent c =
    let r = c.args.route.now in
    omega (arith, told_in r.grid (records_of r) (proper r) c.args.index c.in_ok-parent.parent (sym c.in_ok-parent.ensures.answer), ap length c.records-records.ensures)

pub returns-clause-each : goal.returns-clause-each
returns-clause-each c = let r = c.args.route.now in crosses_each r.grid (records_of r) (proper r)

pub returns-clause-apart : goal.returns-clause-apart
returns-clause-apart c = let r = c.args.route.now in crossings_apart r.grid (records_of r) (proper r)
