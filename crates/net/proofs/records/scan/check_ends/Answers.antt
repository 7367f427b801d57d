use Rattle.std.proofs.Common.{◌≡◌, Bool, length, Some, sym, ap, ◌∙◌, arith}
use Rattle.std.proofs.lemmas.Bool.{or_from}
use Rattle.net.specs.Lowest.{unless}
use Rattle.net.specs.Routes.{sink_at, has_child, end_fault}
use Rattle.net.specs.declared.records.record.RouteFault.TheVariants.{Useless}
use Rattle.net.proofs.Firsts.{lowest_found}
use Rattle.net.proofs.records.scan.check_ends.Goals as goal

pub returns-then-not-parents-i : goal.returns-then-not-parents-i
returns-then-not-parents-i c =
    let rs = c.args.records.now in
    let i = c.loop-i.i in
    let wrong : end_fault rs i ≡ Some (Useless i) = ap (λ (b : Bool). unless b (Useless i)) (or_from (sink_at rs i) (has_child rs i) c.if-not-record.true (sym (c.mark_parents-parents.ensures.1 i (omega arith)) ∙ c.if-not-parents-i.true)) in
    sym (lowest_found (end_fault rs) i (length rs) (Useless i) c.loop-i.invariant wrong c.loop-i-test.true)
