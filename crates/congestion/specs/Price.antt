-- The price of one site by congestion, in thousandths, and the ceiling of congestion.
use Rattle.std.specs.Prelude.{ℕ, ◌+◌, ◌-◌, ◌*◌, ◌/◌}

abbrev pub congestion_ceiling : ℕ
congestion_ceiling = 999999999999

-- The fraction 1,000 × (used + 1 + share ÷ unit) ÷ (capacity − used), both sides counted in parts of the unit: above,
-- the uses once this site is taken and those that wait; below, the sites that are left.
abbrev pub price_over : ℕ → ℕ → ℕ → ℕ
price_over unit used share = 1000 * ((used + 1) * unit + share)

abbrev pub price_under : ℕ → ℕ → ℕ → ℕ
price_under unit capacity used = (capacity - used) * unit

-- the fraction, rounded down
abbrev pub congestion_price : ℕ → ℕ → ℕ → ℕ → ℕ
congestion_price unit capacity used share = price_over unit used share / price_under unit capacity used
