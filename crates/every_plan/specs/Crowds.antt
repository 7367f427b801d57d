-- What a crowd leaves along a route: spare sites, and a price where there is one.
use Rattle.std.specs.Prelude.{ℕ, ◌-◌, cond, List, map, length, Some, None, fold, Option, nat_lt, slice_get}
use Rattle.std.specs.List.{range_with_len}
use Rattle.std.specs.Option.{option_and_then}
use Rattle.cost.specs.declared.costs.Cost.{Ghosts}
use Rattle.every_plan.specs.declared.crowds.Tile.{Tile}

-- the capacity less the use; the difference stops at 0
abbrev pub spare_in : Tile → ℕ
spare_in t = t.capacity - t.used

-- the spare sites at each index
abbrev pub spare_along : List Tile → List ℕ
spare_along tiles = map spare_in tiles

-- `priced` has a price as plain numbers, and the cost type with these members reads them as a cost
module _ {C V : Type 0} (members : Ghosts C V) (priced : ℕ → ℕ → ℕ → V) where
  -- a site has a price only where the capacity exceeds the use
  abbrev pub price_in : Tile → Option C
  price_in t = cond (nat_lt t.used t.capacity) (Some (members.held (priced t.capacity t.used t.share))) None

  -- the price at an index; none past the tiles that are told of
  abbrev pub price_at : List Tile → ℕ → Option C
  price_at tiles k = option_and_then price_in (slice_get tiles k)

  -- the prices at so many indices
  abbrev pub prices_along : ℕ → List Tile → List (Option C)
  prices_along n tiles = map (price_at tiles) (range_with_len 0 n)

  -- the prices after those of each crowd were written over them
  abbrev pub prices_after : List (Option C) → List (List Tile) → List (Option C)
  prices_after before crowds = fold (λ _ tiles. prices_along (length before) tiles) before crowds
