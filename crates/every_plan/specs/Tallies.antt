-- The tally of the answers for many nets.
use Rattle.std.specs.Prelude.{ℕ, ◌+◌, ◌-◌, ◌^◌, min, cond, List, Ok, Err, fold, Option, Result}
use Rattle.std.specs.List.{range_with_len}
use Rattle.grid.specs.declared.shape.Grid.{Grid}
use Rattle.net.specs.declared.records.record.Record.{Record}
use Rattle.net.specs.declared.records.record.RouteFault.{RouteFault}
use Rattle.net.specs.Checked.{route_checked}
use Rattle.cost.specs.declared.costs.Cost.{Ghosts}
use Rattle.search_theory.specs.Costs.{Kind, kind_of}
use Rattle.every_plan.specs.declared.comparing.Verdict.{Verdict}
use Rattle.every_plan.specs.declared.crowds.Tile.{Tile}
use Rattle.every_plan.specs.declared.tallying.Tally.{Tally}
use Rattle.every_plan.specs.Comparing.{no_answer, compared}
use Rattle.every_plan.specs.Crowds.{spare_along, prices_along}
use Rattle.every_plan.specs.Nets.{Net}

-- how many limits are tried, from 1 on
abbrev pub limits : ℕ
limits = 4

-- a number that grows by so much, up to the largest that there is
abbrev pub grown : ℕ → ℕ → ℕ
grown n by = min (n + by) (2 ^ 64 - 1)

-- one answer more
abbrev pub counted : Tally → Verdict → Tally
counted t v = record {
  compared = grown t.compared 1;
  plans = grown t.plans (cond v.plan 1 0);
  different = grown t.different (cond v.right 0 1);
}

module _ {C : Type 0} (o : Kind C) (cells : ℕ) where
  -- a net at one limit
  abbrev pub at_limit : Net C → Tally → (figure : ℕ) → Tally
  at_limit net t figure = counted t (compared o net cells figure)

  -- a net at each limit
  abbrev pub on_route : Net C → Tally → Tally
  on_route net t = fold (at_limit net) t (range_with_len 1 limits)

  module _ (spare : List ℕ) (prices : List (Option C)) where
    abbrev pub where_routed : Tally → Result (Grid × List Record) RouteFault → Tally
    where_routed t (Ok route) = on_route (record { records = route.1; spare = spare; prices = prices }) t
    where_routed t (Err fault) = counted t no_answer

    -- a shape at each limit
    abbrev pub of_shape : Grid → Tally → List Record → Tally
    of_shape grid t shape = where_routed t (route_checked grid shape)

-- `priced` has a price as plain numbers, and the cost type with these members reads them as a cost; there are so many
-- places for prices, and cells
module _ {C V : Type 0} (members : Ghosts C V) (priced : ℕ → ℕ → ℕ → V) (places cells : ℕ) (grid : Grid) (shapes : List (List Record)) where
  -- each shape at each limit in one crowd
  abbrev pub in_crowd : Tally → List Tile → Tally
  in_crowd t tiles = fold (of_shape (kind_of members) cells (spare_along tiles) (prices_along members priced places tiles) grid) t shapes

  -- each shape at each limit in each crowd
  abbrev pub tried : List (List Tile) → Tally
  tried crowds = fold in_crowd (record { compared = 0; plans = 0; different = 0 }) crowds
