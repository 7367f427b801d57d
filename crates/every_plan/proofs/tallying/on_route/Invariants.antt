use Rattle.std.proofs.Common.{◌≡◌, ◌-◌, length, fold}
use Rattle.std.specs.List.{range_with_len}
use Rattle.search_theory.specs.Costs.{kind_of}
use Rattle.every_plan.specs.Nets.{net_of}
use Rattle.every_plan.specs.Tallies.{at_limit}
use Rattle.every_plan.proofs.tallying.on_route.Given as goal

abbrev pub invariant-loop-figure : goal.invariant-loop-figure
invariant-loop-figure g l =
    l.tally ≡ fold (at_limit (kind_of g.P.Cost) (length l.initial.cells) (net_of l.case)) l.initial.tally (range_with_len 1 (l.figure - 1))
