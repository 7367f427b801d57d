-- What it means that records are a route on a grid, without the order of the tests.
use Rattle.std.specs.Prelude.{◌≡◌, ℕ, ◌<◌, ◌≤◌, true, false, List, length, ◌≢◌}
use Rattle.grid.specs.declared.shape.Grid.{Grid}
use Rattle.grid.specs.Tiles.{has_tile}
use Rattle.grid.specs.Boundaries.{neighbours}
use Rattle.net.specs.declared.records.record.Record.{Record}
use Rattle.net.specs.Routes.{most_records, tile_of, parent_of, sink_at, is_child}

pub record Proper (g : Grid) (rs : List Record) : Type 0 where
  pub some : 1 ≤ length rs
  pub not_many : length rs ≤ most_records
  pub on_grid : (i : ℕ) → i < length rs → has_tile g (tile_of rs i) ≡ true
  -- index 0 is the driver's tile and names itself; every other index hangs from an earlier one
  pub driver : parent_of rs 0 ≡ 0
  pub earlier : (i : ℕ) → 0 < i → i < length rs → parent_of rs i < i
  pub beside : (i : ℕ) → 0 < i → i < length rs → neighbours g (tile_of rs i) (tile_of rs (parent_of rs i)) ≡ true
  -- no tile stands at two indices
  pub apart : (i j : ℕ) → i < j → j < length rs → tile_of rs i ≢ tile_of rs j
  -- what holds no sink has a child
  pub ends : (i : ℕ) → i < length rs → sink_at rs i ≡ false → (k : ℕ) × (k < length rs) × (is_child rs i k ≡ true)
