use Rattle.std.proofs.Common.{◌+◌, true, cond, None, sym, ap, ◌∙◌}
use Rattle.length_rule.specs.Costs.{kth_price}
use Rattle.search_cells.specs.Cells.{table_of, five_rows}
use Rattle.search_theory.specs.Joining.{chosen, trunked}
use Rattle.search_cells.proofs.Finishing.{trunked_five}
use Rattle.search.proofs.finish.Table.trunk.Goals as goal
use Rattle.search_theory.specs.Costs.{kind_of}

pub returns-then-free : goal.returns-then-free
returns-then-free g c =
    let m = g.P.Cost in
    let o = kind_of m in
    let limit = c.args.self.now.limit.value in
    let t = table_of m.held c.args.self.now.cells.now (limit + 1) in
    c.chosen.ensures ∙ ap (chosen true) c.driven.ensures
    ∙ sym (trunked_five o t limit c.args.spare c.most.result (kth_price m.nothing m.plus c.args.price) c.most.ensures.within c.most.ensures.below c.most.ensures.same)
    ∙ sym (ap (λ b. cond b (trunked o limit c.args.spare (kth_price m.nothing m.plus c.args.price) (five_rows t)) None) c.if-free.true)
