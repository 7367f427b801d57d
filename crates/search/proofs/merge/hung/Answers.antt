use Rattle.std.proofs.Common.{suc, ◌-◌, false, rules}
use Rattle.search_cells.specs.Cells.{listed, row_in, line_in}
use Rattle.search_cells.proofs.Turns.{seen_cheapest}
use Rattle.search_theory.specs.Costs.{kind_of}
use Rattle.search_theory.specs.Joining.{tagged, join}
use Rattle.search.proofs.merge.hung.Goals as goal

pub returns : goal.returns
returns g c =
    let m = g.P.Cost in
    let o = kind_of m in
    seen_cheapest o m.held (λ c. listed c.legs) c.args.j _ (λ e. join o false (line_in m.held c.args.own.now (c.args.j - suc e)) (tagged e (row_in m.held c.args.child.now e))) c.cheapest.result c.cheapest.ensures (λ e x l p. search rules)
