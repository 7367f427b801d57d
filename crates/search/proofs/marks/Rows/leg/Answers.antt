use Rattle.std.proofs.Common.{◌≡◌, ◌<◌, [], length, get_or, ap, ◌∙◌, arith}
use Rattle.net.specs.Checked.{records_of}
use Rattle.net.specs.Routes.{parent_of}
use Rattle.best_plan.specs.Chosen.{problem}
use Rattle.search_cells.specs.Cells.{no_leg, branch_of, rows_within}
use Rattle.search_cells.proofs.Handing.{choice_none, choice_some}
use Rattle.search_cells.proofs.Kinship.{rank_below}
use Rattle.search_theory.specs.Costs.{kind_of}
use Rattle.search_cells.proofs.Narrow.{searchable}
use Rattle.search.proofs.marks.Rows.leg.Goals as goal

pub get-requires : goal.get-requires
get-requires g c =
    let rs = records_of c.args.self.now.route.now in
    let is : parent_of c.records.result.now c.args.k ≡ parent_of rs c.args.k = ap (λ ps. parent_of ps c.args.k) c.records.ensures in
    omega (arith, is, c.requires.inside, (searchable c.args.self.now.route.now).earlier c.args.k c.requires.one c.requires.inside)

pub bounds-legs-self : goal.bounds-legs-self
bounds-legs-self g c =
    let route = c.args.self.now.route.now in
    omega (arith, rank_below (records_of route) (searchable route) c.args.k c.requires.one c.requires.inside, c.args.self.now.ranked c.args.k c.requires.inside)

pub returns-in_default : goal.returns-in_default
returns-in_default g c =
    let m = g.P.Cost in
    let rows = c.args.self.now in
    let rs = records_of rows.route.now in
    let r = rows_within m.held rows.cells.now rows.limit.value in
    choice_none (problem (kind_of m) rows.limit.value rs [] []) r c.args.k c.args.e
    (c.in_default.ensures ∙ ap (λ ps. r (parent_of ps c.args.k) c.args.e) c.records.ensures)

pub returns : goal.returns
returns g c =
    let m = g.P.Cost in
    let rows = c.args.self.now in
    let rs = records_of rows.route.now in
    let r = rows_within m.held rows.cells.now rows.limit.value in
    let x = c.in-Some.x in
    let p = parent_of rs c.args.k in
    let inside : p < length rs = omega (arith, c.requires.inside, (searchable rows.route.now).earlier c.args.k c.requires.one c.requires.inside) in
    ap (λ i. branch_of (get_or x.what.legs.items i no_leg)) (rows.ranked c.args.k c.requires.inside)
    ∙ choice_some (problem (kind_of m) rows.limit.value rs [] []) r c.args.k c.args.e
    (m.held x.cost) x.what.trunk x.what.legs (c.in-Some.ensures ∙ ap (λ ps. r (parent_of ps c.args.k) c.args.e) c.records.ensures) (rows.long p c.args.e inside) c.requires.one c.requires.inside
