use Rattle.std.proofs.Common.{◌≡◌, ℕ, ◌+◌, ◌<◌, ◌≤◌, length}
use Rattle.net.specs.Checked.{records_of}
use Rattle.best_plan.specs.Chosen.{problem}
use Rattle.search_cells.specs.Cells.{rows_of}
use Rattle.search_theory.specs.Costs.{kind_of}
use Rattle.search_theory.specs.Search.{row}
use Rattle.search.proofs.walk.walk.Given as goal

abbrev pub invariant-loop-i : goal.invariant-loop-i
invariant-loop-i g l =
    let m = g.P.Cost in
    let o = kind_of m in
    let rs = records_of l.route in
    let limit = l.limit.value in
    (i e : ℕ) → l.i ≤ i → i < length rs → e ≤ limit → rows_of m.held l.rows (limit + 1) i e ≡ row o (problem o limit rs l.spare l.prices) i e
