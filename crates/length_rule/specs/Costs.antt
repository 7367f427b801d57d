-- What a plan costs, in any kind of cost that has a value called nothing and a sum.
use Rattle.std.specs.Prelude.{ℕ, zero, suc, List, length, Some, None, Option, slice_index_or}
use Rattle.net.specs.declared.records.record.Record.{Record}
use Rattle.length_rule.specs.Gates.{need}

-- the price of a site in the tile of an index; there is none where no site is spare
abbrev pub price_at : {C : Type 0} → List (Option C) → ℕ → Option C
price_at prices i = slice_index_or prices i None

module _ {C : Type 0} (nothing : C) (plus : C → C → C) where
  -- What the k-th site costs that a plan takes in one tile: the same for each k. Without a price it adds nothing, and
  -- no legal plan takes it.
  abbrev pub kth_price : Option C → ℕ → C
  kth_price None k = nothing
  kth_price (Some price) k = price

  -- so many sites of one tile, from nothing
  abbrev pub tile_cost : Option C → ℕ → C
  tile_cost price zero = nothing
  tile_cost price (suc k) = plus (kth_price price k) (tile_cost price k)

  -- the sites that a plan takes in the tiles of the first n indices, tile by tile
  abbrev pub cost_below : List Record → List (Option C) → List ℕ → ℕ → C
  cost_below rs prices ms zero = nothing
  cost_below rs prices ms (suc n) = plus (tile_cost (price_at prices n) (need rs ms n)) (cost_below rs prices ms n)

  abbrev pub plan_cost : List Record → List (Option C) → List ℕ → C
  plan_cost rs prices ms = cost_below rs prices ms (length rs)
