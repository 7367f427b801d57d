-- The crowd along a net: capacity and use in the tile of each index, with one net's whole share waiting in every tile.
use Rattle.std.specs.Prelude.{ℕ, ◌+◌, ◌%◌, cond, Some, None, Option, ◌==◌}
use Rattle.shares.specs.Shares.{share_unit}
use Rattle.cost.specs.declared.pair.Pair.{Pair}
use Rattle.cost.specs.Pairs.{pair}
use Rattle.count.specs.declared.amount.Count.{Count}
use Rattle.count.specs.Counts.{count}
use Rattle.count.specs.Price.{count_price}
use Rattle.congestion.specs.declared.amount.Congestion.{Congestion}
use Rattle.congestion.specs.Congestions.{congestion}
use Rattle.congestion.specs.Price.{congestion_price}

-- a cost by count and then congestion
abbrev pub Costs : Type 0
Costs = Pair Count Congestion ℕ ℕ

abbrev pub crowd_used : ℕ → ℕ
crowd_used k = k % 3

abbrev pub crowd_spare : ℕ → ℕ
crowd_spare k = k % 5

abbrev pub crowd_capacity : ℕ → ℕ
crowd_capacity k = crowd_used k + crowd_spare k

-- the price of one site of this capacity and use
abbrev pub site_price : ℕ → ℕ → Costs
site_price capacity used =
    pair (count (count_price capacity used share_unit)) (congestion (congestion_price share_unit capacity used share_unit))

-- where a site is spare
abbrev pub crowd_price : ℕ → Option Costs
crowd_price k = cond (crowd_spare k == 0) None (Some (site_price (crowd_capacity k) (crowd_used k)))
