use Rattle.std.proofs.Common.{◌≡◌, length, map, take}
use Rattle.every_plan.specs.Crowds.{prices_after}
use Rattle.every_plan.specs.Tallies.{tried}
use Rattle.every_plan.proofs.tallying.tried.Given as goal

abbrev pub invariant-loop-crowd : goal.invariant-loop-crowd
invariant-loop-crowd g l =
    let priced = g.P.Pricing.priced in record {
      tally : l.tally ≡ tried g.P.Cost priced (length l.initial.prices) (length l.initial.cells) l.grid (map (λ s. s.now) l.shapes) (take l.crowd-index l.crowds);
      prices : l.prices ≡ prices_after g.P.Cost priced l.initial.prices (take l.crowd-index l.crowds);
    }
