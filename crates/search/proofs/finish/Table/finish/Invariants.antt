use Rattle.std.proofs.Common.{◌≡◌, ℕ, ◌+◌, ◌<◌, cond, eqb, None}
use Rattle.search_cells.specs.Cells.{as_chosen, row_in, table_of, five_rows}
use Rattle.search_theory.specs.Costs.{kind_of}
use Rattle.search_theory.specs.Entries.{cheaper}
use Rattle.search_theory.specs.Joining.{plain}
use Rattle.search.proofs.finish.Table.finish.Given as goal

abbrev pub invariant-loop-e : goal.invariant-loop-e
invariant-loop-e g l =
    let m = g.P.Cost in
    let o = kind_of m in
    (e : ℕ) → e < l.e → row_in m.held l.row e ≡ cheaper o (plain o l.spare (five_rows (table_of m.held l.self.cells.now (l.self.limit.value + 1))) e) (cond (eqb e 0) (as_chosen m.held l.other) None)
