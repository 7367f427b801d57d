use Rattle.std.proofs.Common.{length, rules}
use Rattle.search_cells.specs.Cells.{listed, line_in}
use Rattle.search_cells.proofs.Turns.{seen_cheapest}
use Rattle.search_theory.specs.Costs.{kind_of}
use Rattle.search.proofs.finish.level.Goals as goal

pub returns : goal.returns
returns g c =
    let m = g.P.Cost in
    seen_cheapest (kind_of m) m.held (λ c. listed c.legs) (length c.args.row.now) _ (line_in m.held c.args.row.now) c.cheapest.result c.cheapest.ensures (λ j x l p. search rules)
