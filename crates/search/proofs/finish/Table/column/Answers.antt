use Rattle.std.proofs.Common.{◌+◌, rules}
use Rattle.search_cells.specs.Cells.{listed, table_of}
use Rattle.search_cells.proofs.Turns.{seen_cheapest}
use Rattle.search_theory.specs.Costs.{kind_of}
use Rattle.search.proofs.finish.Table.column.Goals as goal

pub returns : goal.returns
returns g c =
    let m = g.P.Cost in
    seen_cheapest (kind_of m) m.held (λ c. listed c.legs) c.args.rows _ (λ h. table_of m.held c.args.self.now.cells.now (c.args.self.now.limit.value + 1) h c.args.e) c.cheapest.result c.cheapest.ensures (λ h x l p. search rules)
