-- No price of a site passes the ceiling of congestion.
use Prim.Native.Nat.{ℕ, ◌^◌, ◌≤◌, ◌<◌}
use native.Mathlib.Nat.{div-le_of_le-mul}
use native.Mathlib.Omega.{arith}
use Rattle.shares.specs.Shares.{share_unit}
use Rattle.congestion.specs.Price.{congestion_ceiling, price_over, price_under, congestion_price}

pub price_fits : (capacity used share : ℕ) → used < capacity → capacity < 2 ^ 16 → share < 2 ^ 32 → congestion_price share_unit capacity used share ≤ congestion_ceiling
price_fits capacity used share room few short =
    div-le_of_le-mul (price_under share_unit capacity used) {m = price_over share_unit used share} {n = congestion_ceiling} (omega arith)
