use Rattle.std.proofs.Common.{◌≡◌, ℕ, ◌+◌, ◌<◌, [], length, get_or}
use Rattle.net.specs.Checked.{records_of}
use Rattle.best_plan.specs.Chosen.{problem}
use Rattle.search_cells.specs.Cells.{rows_within}
use Rattle.search_theory.specs.Costs.{kind_of}
use Rattle.search_theory.specs.Search.{handed_down}
use Rattle.search.specs.Rows.{handed_mark}
use Rattle.search.proofs.marks.Rows.decide.Given as goal

abbrev pub invariant-loop-k : goal.invariant-loop-k
invariant-loop-k g l =
    let m = g.P.Cost in
    let rs = records_of l.self.route.now in
    let N = problem (kind_of m) l.self.limit.value rs [] [] in
    let r = rows_within m.held l.self.cells.now l.self.limit.value in
    (length l.lengths ≡ 256)
    × ((j : ℕ) → j < length l.yielded + 1 → get_or l.lengths j 0 ≡ handed_down N r l.e (length rs) j)
    × ((j : ℕ) → j < length l.yielded + 1 → get_or l.marks j 0 ≡ handed_mark N r l.e j)
