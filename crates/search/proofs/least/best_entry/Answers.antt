use Rattle.std.proofs.Common.{length, rules}
use Rattle.search_cells.specs.Cells.{row_in}
use Rattle.search_cells.proofs.Turns.{seen_cheapest}
use Rattle.search_theory.specs.Costs.{kind_of}
use Rattle.search_theory.specs.Joining.{tagged}
use Rattle.search.proofs.least.best_entry.Goals as goal

pub returns : goal.returns
returns g c =
    let m = g.P.Cost in
    let xs = c.args.row.now in
    seen_cheapest (kind_of m) m.held (λ e. e) (length xs) _ (λ e. tagged e (row_in m.held xs e)) c.cheapest.result c.cheapest.ensures (λ e x l p. search rules)
