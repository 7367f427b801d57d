-- Plans for a net of a floorplan: which are legal, what they cost, and which is the cheapest, at the limit and route that
-- the tables tell and the spare sites and prices of this world.
use Rattle.std.specs.Prelude.{ℕ, Bool, cond, not, ◌&&◌, List, map, length, Some, None, Option, ◌==◌, nat_eq, nat_lt}
use Rattle.stock.specs.Meaning.{capacity, used, spare}
use Rattle.shares.specs.Shares.{share_unit, waiting_share}
use Rattle.net.specs.declared.records.record.Record.{Record}
use Rattle.net.specs.Lowest.{some_below}
use Rattle.net.specs.Routes.{tile_of}
use Rattle.length_rule.specs.Children.{indices, kept}
use Rattle.length_rule.specs.Costs.{plan_cost}
use Rattle.length_rule.specs.Legal.{Legal}
use Rattle.cost.specs.declared.costs.Cost.{Ghosts}
use Rattle.search_theory.specs.Costs.{Kind, kind_of}
use Rattle.best_plan.specs.Cheapest.{Cheapest, NoLegalPlan}
use Rattle.runs.specs.Worlds.{World, limit_of, route_of, is_planned}

-- a cost kind, and what one site costs by its tile's capacity, use and waiting share
pub record Prices (C : Type 0) : Type 0 where
  pub kind : Kind C
  pub priced : ℕ → ℕ → ℕ → C

-- the members of a cost type and its prices: V is the type of its costs in a work cell, in whose plain numbers a price is
-- told
abbrev pub prices_of : {C V : Type 0} → Ghosts C V → (ℕ → ℕ → ℕ → V) → Prices C
prices_of members priced = record {
  kind = kind_of members;
  priced = λ capacity used share. members.held (priced capacity used share);
}

-- a record of these stands in the tile t
abbrev pub stands_in : List Record → ℕ → Bool
stands_in rs t = some_below (λ i. nat_eq (tile_of rs i) t) (length rs)

-- net j is another than k, waits, and has a tile t
abbrev pub other_waiting : World → ℕ → ℕ → ℕ → Bool
other_waiting w k t j = not (j == k) && (not (is_planned w j) && stands_in (route_of w j) t)

-- the waiting share of the tile t for net k: each other waiting net with that tile counts once
abbrev pub share_in : ℕ → World → ℕ → ℕ → ℕ
share_in unit w k t = waiting_share unit (map (limit_of w) (kept (other_waiting w k t) (indices w.entered)))

-- what a site in the tile t costs net k; there is no price where no site is spare
abbrev pub price_in : {C : Type 0} → Prices C → World → ℕ → ℕ → Option C
price_in o w k t =
    cond (nat_lt 0 (spare w.sites t)) (Some (o.priced (capacity w.sites t) (used w.sites t) (share_in share_unit w k t))) None

-- along the tiles of net k
abbrev pub spares : World → ℕ → List ℕ
spares w k = map (λ r. spare w.sites r.tile) (route_of w k)

abbrev pub prices : {C : Type 0} → Prices C → World → ℕ → List (Option C)
prices o w k = map (λ r. price_in o w k r.tile) (route_of w k)

abbrev pub LegalFor : World → ℕ → List ℕ → Type 0
LegalFor w k ms = Legal (limit_of w k) (route_of w k) (spares w k) ms

abbrev pub NoPlanFor : World → ℕ → Type 0
NoPlanFor w k = NoLegalPlan (limit_of w k) (route_of w k) (spares w k)

abbrev pub cost_for : {C : Type 0} → Prices C → World → ℕ → List ℕ → C
cost_for o w k ms = plan_cost o.kind.nothing o.kind.plus (route_of w k) (prices o w k) ms

-- these marks are legal for net k, this is their cost, and no legal plan for it costs less
abbrev pub CheapestFor : {C : Type 0} → Prices C → World → ℕ → C → List ℕ → Type 0
CheapestFor o w k cost ms = Cheapest o.kind (limit_of w k) (route_of w k) (spares w k) (prices o w k) cost ms

-- A choice of marks, from all that it may look at: the limit and the route of a net, and the spare sites and prices along
-- its tiles. What is the same to look at gets the same marks.
abbrev pub Choice : Type 0 → Type 0
Choice C = ℕ → List Record → List ℕ → List (Option C) → Option (List ℕ)

abbrev pub chosen_for : {C : Type 0} → Choice C → Prices C → World → ℕ → Option (List ℕ)
chosen_for choose o w k = choose (limit_of w k) (route_of w k) (spares w k) (prices o w k)
