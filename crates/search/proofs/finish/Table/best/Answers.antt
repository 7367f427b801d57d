use Rattle.std.proofs.Common.{◌≡◌, ◌+◌, true, false, cond, eqb, None, sym, ap, ◌∙◌, arith}
use Rattle.std.proofs.lemmas.Bool.Decides.{nat_tests}
use Rattle.search_cells.specs.Cells.{choice_of, as_chosen, table_of, five_rows}
use Rattle.search_theory.specs.Entries.{cheaper}
use Rattle.search_theory.specs.Joining.{chosen, plain}
use Rattle.search_cells.proofs.Finishing.{plain_five}
use Rattle.search_cells.proofs.Turns.{seen_lesser}
use Rattle.search_theory.proofs.Arrays.{cheaper_none}
use Rattle.search.proofs.finish.Table.best.Goals as goal
use Rattle.search_theory.specs.Costs.{kind_of}

pub returns-then-e-eq0 : goal.returns-then-e-eq0
returns-then-e-eq0 g c =
    let m = g.P.Cost in
    let o = kind_of m in
    let t = table_of m.held c.args.self.now.cells.now (c.args.self.now.limit.value + 1) in
    let z : eqb c.args.e 0 ≡ true = grind (arith, nat_tests) in
    ap (as_chosen m.held) c.cheaper.ensures ∙ seen_lesser o m.held choice_of c.chosen-own.result c.args.other
    ∙ ap (λ x. cheaper o x (as_chosen m.held c.args.other)) (c.chosen-own.ensures ∙ ap (chosen false) c.column.ensures ∙ sym (plain_five o t c.args.spare c.most.result c.args.e c.most.ensures.within c.most.ensures.below c.most.ensures.same))
    ∙ sym (ap (λ b. cheaper o (plain o c.args.spare (five_rows t) c.args.e) (cond b (as_chosen m.held c.args.other) None)) z)

pub returns-else-e-eq0 : goal.returns-else-e-eq0
returns-else-e-eq0 g c =
    let m = g.P.Cost in
    let o = kind_of m in
    let t = table_of m.held c.args.self.now.cells.now (c.args.self.now.limit.value + 1) in
    let z : eqb c.args.e 0 ≡ false = grind (arith, nat_tests) in
    c.chosen-own.ensures ∙ ap (chosen false) c.column.ensures ∙ sym (plain_five o t c.args.spare c.most.result c.args.e c.most.ensures.within c.most.ensures.below c.most.ensures.same)
    ∙ sym (cheaper_none o (plain o c.args.spare (five_rows t) c.args.e))
    ∙ sym (ap (λ b. cheaper o (plain o c.args.spare (five_rows t) c.args.e) (cond b (as_chosen m.held c.args.other) None)) z)
