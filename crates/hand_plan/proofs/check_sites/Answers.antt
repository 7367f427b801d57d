use Rattle.std.proofs.Common.{◌≡◌, ◌<◌, ◌≤◌, Bool, leb, length, Some, sym, ap, rules, arith}
use Rattle.std.proofs.lemmas.Bool.{le-leb, lt-leb}
use Rattle.std.proofs.lemmas.List.{length-take}
use Rattle.net.specs.Checked.{records_of}
use Rattle.net.specs.Lowest.{unless}
use Rattle.net.proofs.Firsts.{lowest_found, lowest_more, unless_clear}
use Rattle.length_rule.specs.declared.PlanFault.TheVariants.{Sites}
use Rattle.length_rule.specs.Gates.{need}
use Rattle.length_rule.specs.Legal.{spare_at}
use Rattle.length_rule.specs.Refusals.{site_fault}
use Rattle.hand_plan.proofs.Scanning.{sites_told}
use Rattle.hand_plan.proofs.check_sites.Goals as goal

pub returns-then-sites-unwrap_or : goal.returns-then-sites-unwrap_or
returns-then-sites-unwrap_or c =
    let rs = records_of c.args.route.now in
    let ms = c.args.marks.now in
    let i = c.loop-index.index in
    let left : c.unwrap_or.result ≡ spare_at c.args.spare.now i = search rules in
    let sites = sites_told c.args.route.now ms i c.records.ensures c.loop-index-test.true c.needs-needed.ensures.answer in
    let more : spare_at c.args.spare.now i < need rs ms i = omega (arith, left, sites, c.if-sites-unwrap_or.true) in
    let wrong : site_fault rs c.args.spare.now ms i ≡ Some (Sites i) = ap (λ (b : Bool). unless b (Sites i)) (lt-leb (need rs ms i) (spare_at c.args.spare.now i) more) in
    sym (lowest_found (site_fault rs c.args.spare.now ms) i (length rs) (Sites i) c.loop-index.invariant wrong (omega (arith, c.loop-index-test.true, ap length c.records.ensures, length-take (length c.records.result.now) c.needs-needed.result)))

pub loop-index-preserved : goal.loop-index-preserved
loop-index-preserved c =
    let rs = records_of c.args.route.now in
    let ms = c.args.marks.now in
    let i = c.loop-index.index in
    let left : c.unwrap_or.result ≡ spare_at c.args.spare.now i = search rules in
    let sites = sites_told c.args.route.now ms i c.records.ensures c.loop-index-test.true c.needs-needed.ensures.answer in
    let fits : need rs ms i ≤ spare_at c.args.spare.now i = omega (arith, left, sites, c.if-sites-unwrap_or.false) in
    lowest_more (site_fault rs c.args.spare.now ms) i c.loop-index.invariant (unless_clear (leb (need rs ms i) (spare_at c.args.spare.now i)) (Sites i) (le-leb (need rs ms i) (spare_at c.args.spare.now i) fits))
