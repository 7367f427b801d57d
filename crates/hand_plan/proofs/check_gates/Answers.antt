use Rattle.std.proofs.Common.{◌≡◌, length, Some, sym, ap, ◌∙◌, rules, arith}
use Rattle.net.specs.Checked.{records_of}
use Rattle.net.specs.Lowest.{fault_of}
use Rattle.net.proofs.Firsts.{lowest_found, lowest_more}
use Rattle.length_rule.specs.Refusals.{gate_fault}
use Rattle.hand_plan.proofs.Scanning.{gates_told}
use Rattle.hand_plan.proofs.check_gates.Goals as goal

pub returns-in_err-check_gates_of : goal.returns-in_err-check_gates_of
returns-in_err-check_gates_of c =
    let rs = records_of c.args.route.now in
    let i = c.loop-index.index in
    let limit = c.args.limit.value in
    let fault = c.in_err-check_gates_of.field-0.0 in
    let same : fault_of c.from_residual.result ≡ Some fault = search rules in
    let told = gates_told c.args.route.now c.args.marks.now i limit c.loop-index-test.true c.records-record-items.ensures c.hanging-lengths.ensures.answer c.mark_at-mark.ensures c.from-parent.ensures c.gates_of.ensures in
    same ∙ sym (lowest_found (gate_fault limit rs c.args.marks.now) i (length rs) fault c.loop-index.invariant (sym (c.in_err-check_gates_of.ensures ∙ told)) (omega (arith, ap length c.records-record-items.ensures)))

pub loop-index-preserved : goal.loop-index-preserved
loop-index-preserved c =
    let rs = records_of c.args.route.now in
    let i = c.loop-index.index in
    let limit = c.args.limit.value in
    let told = gates_told c.args.route.now c.args.marks.now i limit c.loop-index-test.true c.records-record-items.ensures c.hanging-lengths.ensures.answer c.mark_at-mark.ensures c.from-parent.ensures c.gates_of.ensures in
    lowest_more (gate_fault limit rs c.args.marks.now) i c.loop-index.invariant (sym (c.in_ok-check_gates_of.ensures ∙ told))
