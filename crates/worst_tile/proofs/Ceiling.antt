-- No price of a site passes the ceiling of worst tile: the site to be taken is one of the tile's.
use Prim.Native.Nat.{ℕ, ◌≤◌, ◌<◌}
use native.Mathlib.Nat.{div-le_of_le-mul}
use native.Mathlib.Omega.{arith}
use Rattle.worst_tile.specs.Price.{price_over, worst_tile_ceiling, worst_tile_price}

pub price_fits : (capacity used share : ℕ) → used < capacity → worst_tile_price capacity used share ≤ worst_tile_ceiling
price_fits capacity used share room = div-le_of_le-mul capacity {m = price_over used} {n = worst_tile_ceiling} (omega arith)
