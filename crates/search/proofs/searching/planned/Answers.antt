-- The rows are the search's, so the driver's best entry and the marks handed down are the plan that is chosen.
use Rattle.std.proofs.Common.{Some, refl, replicate, ap, ◌∙◌, arith}
use Rattle.std.proofs.lemmas.List.{get_or-replicate}
use Rattle.search_cells.specs.Families.{no_family, members}
use Rattle.net.specs.Checked.{records_of}
use Rattle.search_theory.specs.Costs.{kind_of}
use Rattle.search_theory.specs.Joining.{best_entry}
use Rattle.search_cells.specs.Cells.{row_in}
use Rattle.search.specs.Answers.{cost_of, marks_of_chosen}
use Rattle.search_cells.proofs.Narrow.{searchable}
use Rattle.search.proofs.Nets.{few}
use Rattle.search.proofs.Outcome.{whole_choices, none_chosen, some_chosen}
use Rattle.search.proofs.searching.planned.Goals as goal

pub link-requires : goal.link-requires
link-requires g c = record {
  wide = refl;
  long = refl;
  first = refl;
  fresh = λ i l. ap members (get_or-replicate 256 i (record { count = 0; items = replicate 4 0 }) no_family (omega (arith, few c.args.route.now)));
}

pub walk-requires : goal.walk-requires
walk-requires g c = record { own = c.requires.own; wide = omega (arith, few c.args.route.now); told = c.link.ensures.families }

pub nth_row-requires : goal.nth_row-requires
nth_row-requires g c = omega (arith, (searchable c.args.route.now).some)

pub best_entry-requires : goal.best_entry-requires
best_entry-requires g c = omega (arith, c.nth_row.ensures.wide, c.args.limit.fits)

pub returns-in_err-first : goal.returns-in_err-first
returns-in_err-first g c =
    let m = g.P.Cost in
    let o = kind_of m in
    let route = c.args.route.now in
    let first = c.nth_row.result.now in
    let is = none_chosen o m.held c.args.limit.value (records_of route) c.args.spare.now c.args.prices.now (searchable route) c.walk.new.cells c.walk.ensures.rows
    first c.nth_row.ensures.cells (c.in_err-first.ensures ∙ ap (λ n. best_entry o n (row_in m.held first)) c.nth_row.ensures.wide) in
    record { answer = c.from_residual.ensures ∙ ap cost_of is; marks = ap (marks_of_chosen c.args.marks.now) is }

pub invariant_of-rows : goal.invariant_of-rows
invariant_of-rows g c =
    let m = g.P.Cost in
    let route = c.args.route.now in
    record {
      within = omega (arith, c.requires.own, c.walk.auto.cells);
      ranked = c.link.ensures.ranks;
      long = whole_choices (kind_of m) m.held c.args.limit.value (records_of route) c.args.spare.now c.args.prices.now (searchable route) c.walk.new.cells c.walk.ensures.rows;
    }

pub returns : goal.returns
returns g c =
    let m = g.P.Cost in
    let o = kind_of m in
    let route = c.args.route.now in
    let ms = c.decide.new.marks in
    let first = c.nth_row.result.now in
    let is = some_chosen o m.held c.args.limit.value (records_of route) c.args.spare.now c.args.prices.now (searchable route) c.walk.new.cells c.walk.ensures.rows
    first c.nth_row.ensures.cells c.in_ok-first.first ms (c.in_ok-first.ensures ∙ ap (λ n. best_entry o n (row_in m.held first)) c.nth_row.ensures.wide) (omega arith) c.decide.ensures in
    record { answer = ap Some c.from_cell.ensures ∙ ap cost_of is; marks = ap (marks_of_chosen c.args.marks.now) is }
