use Rattle.std.proofs.Common.{◌≡◌, ℕ, ◌+◌, ◌*◌, ◌<◌, ◌≤◌, get_or, None}
use Rattle.length_rule.specs.Costs.{kth_price}
use Rattle.search_cells.specs.Cells.{row_in, table_of}
use Rattle.search_theory.specs.Costs.{kind_of}
use Rattle.search_theory.specs.Joining.{step}
use Rattle.search.proofs.merge.merge.Given as goal

abbrev pub invariant-loop-h : goal.invariant-loop-h
invariant-loop-h g l =
    let m = g.P.Cost in
    let old = l.initial.table in
    let limit = l.fn.limit.value in
    let w = limit + 1 in
    record {
      before : (k : ℕ) → k < l.h * w → get_or l.table k None ≡ get_or old k None;
      after : (h j : ℕ) → l.h ≤ h → h < 5 → j ≤ limit → table_of m.held l.table w h j ≡ step (kind_of m) limit (kth_price m.nothing m.plus l.price) (table_of m.held old w) (row_in m.held l.child) h j;
    }
