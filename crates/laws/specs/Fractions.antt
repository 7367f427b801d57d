-- A fraction rounded down.
use Rattle.std.specs.Prelude.{ℕ, ◌+◌, ◌*◌, ◌≤◌, ◌<◌}

-- n is at most over ÷ under, and n + 1 is above it
pub record RoundedDown (over under n : ℕ) : Type 0 where
  pub not_above : n * under ≤ over
  pub next_above : over < (n + 1) * under
