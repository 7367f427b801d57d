use Rattle.std.proofs.Common.{None, refl, arith}
use Rattle.search_theory.specs.Costs.{kind_of}
use Rattle.search_cells.proofs.Turns.{least_more}
use Rattle.search.proofs.least.cheapest.Goals as goal

pub loop-k-init : goal.loop-k-init
loop-k-init g c = record { got = λ _. None; each = λ k l. absurd (omega arith); is = refl }

pub loop-k-preserved : goal.loop-k-preserved
loop-k-preserved g c = least_more (kind_of g.P.Cost) g.P.Cost.held _ c.loop-k.k _ _ _ c.loop-k.invariant c.cell.ensures c.cheaper-best.ensures
