use Rattle.std.proofs.Common.{◌≡◌, length, map, take, fold}
use Rattle.search_theory.specs.Costs.{kind_of}
use Rattle.every_plan.specs.Tallies.{of_shape}
use Rattle.every_plan.proofs.tallying.in_crowd.Given as goal

abbrev pub invariant-loop-shape : goal.invariant-loop-shape
invariant-loop-shape g l =
    l.tally ≡ fold (of_shape (kind_of g.P.Cost) (length l.initial.cells) l.spare l.prices l.grid) l.initial.tally (map (λ s. s.now) (take l.shape-index l.shapes))
