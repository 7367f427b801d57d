use Rattle.std.proofs.Common.{suc, ◌-◌, true, false, ap, ◌∙◌}
use Rattle.search_cells.specs.Cells.{listed, as_joined, as_reached, row_in, line_in}
use Rattle.search_cells.proofs.Turns.{seen_lesser}
use Rattle.search_theory.specs.Costs.{kind_of}
use Rattle.search_theory.specs.Entries.{cheaper, cheapest}
use Rattle.search_theory.specs.Joining.{tagged, join, charged}
use Rattle.search.proofs.merge.joined.Goals as goal

pub returns : goal.returns
returns g c =
    let m = g.P.Cost in
    let o = kind_of m in
    let j = c.args.j in
    let first = as_reached m.held c.args.first in
    let hung = cheapest o j (λ e. join o false (line_in m.held c.args.own.now (j - suc e)) (tagged e (row_in m.held c.args.child.now e))) in
    ap (as_joined m.held) c.cheaper.ensures ∙ seen_lesser o m.held (λ c. listed c.legs) c.hung.result c.charged.result
    ∙ ap (λ x. cheaper o x (as_joined m.held c.charged.result)) c.hung.ensures
    ∙ ap (cheaper o hung) (c.charged.ensures ∙ ap (charged o c.args.price) (c.join.ensures ∙ ap (λ x. join o true (as_joined m.held x) first) c.cell.ensures))
