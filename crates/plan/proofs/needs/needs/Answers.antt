use Rattle.std.proofs.Common.{◌≡◌, ℕ, length, ap, subst, arith}
use Rattle.net.specs.Checked.{records_of}
use Rattle.length_rule.proofs.Local.{needs_local}
use Rattle.plan.specs.Tally.{Tallied}
use Rattle.plan.proofs.Tallying.{tallied_none, tallied_all, in_table, first_small, second_small, counted_more}
use Rattle.plan.proofs.needs.needs.Goals as wants

pub loop-index-init : wants.loop-index-init
loop-index-init c = tallied_none (records_of c.args.route.now) c.args.marks.now

pub bounds-needs-from : wants.bounds-needs-from
bounds-needs-from c = in_table c.args.route.now c.records-record-items.ensures c.loop-index-test.true c.loop-index.invariant c.from-in-loop-index.ensures

pub bounds-needs-from-in-loop-index : wants.bounds-needs-from-in-loop-index
bounds-needs-from-in-loop-index c = in_table c.args.route.now c.records-record-items.ensures c.loop-index-test.true c.loop-index.invariant c.from-in-loop-index.ensures

pub overflow_add-needs : wants.overflow_add-needs
overflow_add-needs c = omega (arith, first_small c.args.route.now c.records-record-items.ensures c.loop-index-test.true c.loop-index.invariant c.from-in-loop-index.ensures c.mark_at-mark.ensures c.has_head.ensures c.from.ensures)

pub overflow_add-needs-in-loop-index : wants.overflow_add-needs-in-loop-index
overflow_add-needs-in-loop-index c = omega (arith, second_small c.args.route.now c.records-record-items.ensures c.loop-index-test.true c.loop-index.invariant c.from-in-loop-index.ensures c.mark_at-mark.ensures c.has_head.ensures c.from.ensures c.has_trunk.ensures c.from-in-loop-index-2.ensures)

pub loop-index-preserved : wants.loop-index-preserved
loop-index-preserved c = counted_more c.args.route.now c.records-record-items.ensures c.loop-index-test.true c.loop-index.invariant c.from-in-loop-index.ensures c.mark_at-mark.ensures c.has_head.ensures c.from.ensures c.has_trunk.ensures c.from-in-loop-index-2.ensures

pub returns-clause-answer : wants.returns-clause-answer
returns-clause-answer c =
    let rs = records_of c.args.route.now in
    let all : c.loop-index.index ≡ length rs = omega (arith, ap length c.records-record-items.ensures) in
    tallied_all rs c.args.marks.now c.loop-index.needs (subst (λ (n : ℕ). Tallied rs c.args.marks.now n c.loop-index.needs) all c.loop-index.invariant)

pub returns-clause-local : wants.returns-clause-local
returns-clause-local c = λ p. needs_local (records_of c.args.route.now) c.args.marks.now p.driver
