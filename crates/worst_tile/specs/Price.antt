-- The price of one site by worst tile, in thousandths, and the ceiling of worst tile: a full tile.
use Rattle.std.specs.Prelude.{ℕ, ◌+◌, ◌*◌, ◌/◌}

abbrev pub worst_tile_ceiling : ℕ
worst_tile_ceiling = 1000

-- the fraction 1,000 × (used + 1) ÷ capacity has this above, and the capacity below
abbrev pub price_over : ℕ → ℕ
price_over used = 1000 * (used + 1)

-- the fraction, rounded down; the share has no part in it
abbrev pub worst_tile_price : ℕ → ℕ → ℕ → ℕ
worst_tile_price capacity used share = price_over used / capacity
