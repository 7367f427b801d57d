use Rattle.std.proofs.Common.{suc, ◌+◌, ap, ◌∙◌, add-one, arith}
use Rattle.length_rule.specs.Costs.{kth_price}
use Rattle.search_cells.specs.Cells.{as_joined, line_in, table_of}
use Rattle.search_cells.proofs.Parts.{rows_apart}
use Rattle.search_cells.proofs.Turns.{cheapest_same}
use Rattle.search_theory.specs.Costs.{kind_of}
use Rattle.search_theory.specs.Entries.{cheapest}
use Rattle.search_theory.specs.Joining.{charged}
use Rattle.search.proofs.finish.fn.Table.driven.row_driven.Goals as goal

pub row-requires : goal.row-requires
row-requires g c = omega (arith, rows_apart c.args.h 5 (c.captures.self.now.limit.value + 1) c.requires)

pub returns : goal.returns
returns g c =
    let m = g.P.Cost in
    let o = kind_of m in
    let limit = c.captures.self.now.limit.value in
    let row = c.row.result.now in
    c.charged.ensures ∙ ap (λ x. charged o x (as_joined m.held c.level.result)) c.kth_price.ensures
    ∙ ap (charged o (kth_price m.nothing m.plus c.captures.price c.args.h))
    (c.level.ensures ∙ ap (λ n. cheapest o n (line_in m.held row)) c.row.ensures.wide ∙ ap (λ n. cheapest o n (line_in m.held row)) (add-one limit)
    ∙ cheapest_same o (suc limit) (line_in m.held row) (table_of m.held c.captures.self.now.cells.now (limit + 1) c.args.h) (λ j l. ap (as_joined m.held) (c.row.ensures.cells j (omega arith))))
