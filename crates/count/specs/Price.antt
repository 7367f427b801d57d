-- The price of one site by count, and the ceiling of count.
use Rattle.std.specs.Prelude.{ℕ}

abbrev pub count_ceiling : ℕ
count_ceiling = 65535

-- each site counts the same, whatever its tile's capacity, use and share
abbrev pub count_price : ℕ → ℕ → ℕ → ℕ
count_price capacity used share = 1
