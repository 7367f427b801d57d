use Rattle.std.proofs.Common.{◌≡◌, subst, arith}
use Rattle.net.specs.Checked.{records_of}
use Rattle.route_facts.specs.Facts.{child_count}
use Rattle.route_facts.proofs.Kin.{few_children_of, named_later}
use Rattle.route_facts.proofs.child_count.Goals as goal

-- the index that is counted is the one that was asked for
pub returns-clause-answer : goal.returns-clause-answer
returns-clause-answer c =
    let counted = named_later c.args.route.now c.records.result.now _ c.hanging_from.result c.records.ensures c.hanging_from.ensures in
    subst (λ i. c.hanging_from.result ≡ child_count (records_of c.args.route.now) i) (omega arith) counted

pub returns-clause-few : goal.returns-clause-few
returns-clause-few c = few_children_of c.args.route.now
