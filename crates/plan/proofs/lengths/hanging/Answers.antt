use Rattle.std.proofs.Common.{◌≡◌, ℕ, length, replicate, sym, ap, subst, arith}
use Rattle.net.specs.Checked.{records_of}
use Rattle.net.proofs.Properly.{proper}
use Rattle.length_rule.proofs.Unique.{the_rule}
use Rattle.plan.specs.Walk.{Walked}
use Rattle.plan.proofs.Walking.{start, all_walked}
use Rattle.plan.proofs.lengths.hanging.Goals as goal

pub loop-index-init : goal.loop-index-init
loop-index-init c =
    let r = c.args.route.now in
    let all : length (records_of r) ≡ length c.records-index.result.now = sym (ap length c.records-index.ensures) in
    (subst (λ (n : ℕ). Walked (records_of r) c.args.marks.now n (replicate 256 0)) all (start r.grid (records_of r) (proper r) c.args.marks.now), omega (arith, all, (proper r).some))

pub returns-clause-answer : goal.returns-clause-answer
returns-clause-answer c =
    let r = c.args.route.now in
    let last : c.loop-index.index ≡ 1 = omega (arith, c.loop-index.invariant.1) in
    all_walked r.grid (records_of r) (proper r) c.args.marks.now c.loop-index.lengths (subst (λ (n : ℕ). Walked (records_of r) c.args.marks.now n c.loop-index.lengths) last c.loop-index.invariant.0)

pub returns-clause-rule : goal.returns-clause-rule
returns-clause-rule c = let r = c.args.route.now in the_rule (records_of r) (proper r).earlier c.args.marks.now
