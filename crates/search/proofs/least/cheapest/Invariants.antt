use Rattle.search_cells.specs.Cells.{LeastOf}
use Rattle.search_theory.specs.Costs.{kind_of}
use Rattle.search.proofs.least.cheapest.Given as goal

abbrev pub invariant-loop-k : goal.invariant-loop-k
invariant-loop-k g l = LeastOf (kind_of g.P.Cost) g.P.Cost.held l.k (λ k x. goal.F-post g l.cell k x) l.best
