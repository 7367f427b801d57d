-- The share of a tile is at most one unit for each net that waits there.
use Rattle.std.proofs.Common.{ℕ, [], ◌∷◌, length, suc-mul, div-le_self, arith}
use Rattle.shares.specs.Shares.{AtMostOneEach}

pub bounded : (unit : ℕ) → AtMostOneEach unit
bounded unit [] = omega arith
bounded unit (limit ∷ limits) = omega (arith, bounded unit limits, div-le_self unit limit, suc-mul (length limits) unit)
