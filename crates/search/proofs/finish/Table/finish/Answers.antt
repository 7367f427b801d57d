use Rattle.std.proofs.Common.{◌+◌, cond, eqb, None, ap, ◌∙◌, arith}
use Rattle.length_rule.specs.Costs.{kth_price}
use Rattle.search_cells.specs.Cells.{as_chosen, table_of, five_rows}
use Rattle.search_theory.specs.Costs.{kind_of}
use Rattle.search_theory.specs.Entries.{cheaper}
use Rattle.search_theory.specs.Joining.{plain}
use Rattle.search_cells.proofs.Finishing.{finish_at}
use Rattle.search_cells.proofs.Inplace.{forth_more}
use Rattle.search.proofs.finish.Table.finish.Goals as goal

pub loop-e-init : goal.loop-e-init
loop-e-init g c = λ e l. absurd (omega arith)

pub loop-e-preserved : goal.loop-e-preserved
loop-e-preserved g c =
    let m = g.P.Cost in
    let o = kind_of m in
    let t = five_rows (table_of m.held c.args.self.now.cells.now (c.args.self.now.limit.value + 1)) in
    forth_more None (as_chosen m.held) (λ e. cheaper o (plain o c.args.spare t e) (cond (eqb e 0) (as_chosen m.held c.trunk-other.result) None)) c.loop-e.row c.loop-e.e c.best.result (omega arith) c.best.ensures c.loop-e.invariant

pub returns : goal.returns
returns g c =
    let m = g.P.Cost in
    let o = kind_of m in
    let limit = c.args.self.now.limit.value in
    let t = five_rows (table_of m.held c.args.self.now.cells.now (limit + 1)) in
    λ e l. c.loop-e.invariant e (omega arith) ∙ ap (λ x. cheaper o (plain o c.args.spare t e) (cond (eqb e 0) x None)) c.trunk-other.ensures
    ∙ finish_at o limit c.args.free c.args.spare (kth_price m.nothing m.plus c.args.price) t e l
