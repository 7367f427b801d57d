use Rattle.std.proofs.Common.{◌≡◌, ℕ, ◌+◌, ◌<◌, ◌≤◌, map}
use Rattle.length_rule.specs.Costs.{kth_price}
use Rattle.search_cells.specs.Cells.{rows_of, table_of}
use Rattle.search_cells.specs.Lists.{last_first}
use Rattle.search_theory.specs.Costs.{kind_of}
use Rattle.search_theory.specs.Joining.{table}
use Rattle.search.proofs.nodes.gather.Given as goal

abbrev pub invariant-loop-k : goal.invariant-loop-k
invariant-loop-k g l =
    let m = g.P.Cost in
    let limit = l.limit.value in
    (h j : ℕ) → h < 5 → j ≤ limit → table_of m.held l.table (limit + 1) h j
    ≡ table (kind_of m) limit (kth_price m.nothing m.plus l.price) (map (rows_of m.held l.rows (limit + 1)) (last_first (λ k. k) 0 l.fn.family.items l.k-index)) h j
