use Rattle.std.proofs.Common.{◌≡◌, ℕ, ◌<◌, ◌≤◌, length, get_or, None}
use Rattle.search_cells.specs.Cells.{as_reached, row_in, line_in, joined_row}
use Rattle.search_theory.specs.Costs.{kind_of}
use Rattle.search.proofs.merge.merge_row.Given as goal

abbrev pub invariant-loop-j : goal.invariant-loop-j
invariant-loop-j g l =
    let m = g.P.Cost in
    record {
      before : (k : ℕ) → k < l.j → get_or l.own k None ≡ get_or l.initial.own k None;
      after : (k : ℕ) → l.j ≤ k → k < length l.initial.own → line_in m.held l.own k ≡ joined_row (kind_of m) l.price (line_in m.held l.initial.own) (row_in m.held l.child) (line_in m.held l.low) (as_reached m.held l.first) k;
    }
