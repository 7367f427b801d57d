use Rattle.std.proofs.Common.{◌≡◌, ◌<◌, Bool, cond, eqb, length, Some, sym, ap, arith}
use Rattle.std.proofs.lemmas.Bool.{lt-leb}
use Rattle.std.proofs.lemmas.Bool.Decides.{nat_tests}
use Rattle.net.specs.Lowest.{unless}
use Rattle.net.proofs.Firsts.{lowest_found}
use Rattle.length_rule.specs.Marks.{mark_at}
use Rattle.length_rule.specs.Refusals.{mark_fault}
use Rattle.length_rule.specs.declared.PlanFault.TheVariants.{Mark}
use Rattle.hand_plan.proofs.check_marks.Goals as goal
use Rattle.hand_plan.proofs.check_marks.Goals.{then-index-eq0, else-index-eq0}

pub returns-then-mark-most : goal.returns-then-mark-most
returns-then-mark-most c =
    let ms = c.args.marks.now in
    let i = c.loop-index.index in
    let above : cond (eqb i 0) 0 3 < mark_at ms i =
    elim c.if-index-eq0.branch [ then-index-eq0 w ↦ grind (arith, nat_tests) | else-index-eq0 w ↦ grind (arith, nat_tests) ] in
    let wrong : mark_fault ms i ≡ Some (Mark i) = ap (λ (b : Bool). unless b (Mark i)) (lt-leb (mark_at ms i) (cond (eqb i 0) 0 3) above) in
    sym (lowest_found (mark_fault ms) i (length ms) (Mark i) c.loop-index.invariant wrong c.loop-index-test.true)
