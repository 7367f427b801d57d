use Rattle.std.proofs.Common.{suc, ◌+◌, rules}
use Rattle.length_rule.specs.Costs.{kth_price}
use Rattle.search_cells.specs.Cells.{listed, table_of}
use Rattle.search_cells.proofs.Turns.{seen_cheapest}
use Rattle.search_theory.specs.Costs.{kind_of}
use Rattle.search_theory.specs.Entries.{cheapest}
use Rattle.search_theory.specs.Joining.{charged}
use Rattle.search.proofs.finish.Table.driven.Goals as goal

pub returns : goal.returns
returns g c =
    let m = g.P.Cost in
    let o = kind_of m in
    let limit = c.args.self.now.limit.value in
    seen_cheapest o m.held (λ c. listed c.legs) c.args.rows _ (λ h. charged o (kth_price m.nothing m.plus c.args.price h) (cheapest o (suc limit) (λ j. table_of m.held c.args.self.now.cells.now (limit + 1) h j)))
    c.cheapest.result c.cheapest.ensures (λ h x l p. search rules)
