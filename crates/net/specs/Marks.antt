-- What the marks say that the check of a route sets as it goes. Only the check's own functions speak of them.
use Rattle.std.specs.Prelude.{◌≡◌, ℕ, ◌<◌, Bool, false, List, length, nat_eq, slice_index_or}
use Rattle.net.specs.declared.records.record.Record.{Record}
use Rattle.net.specs.Lowest.{some_below}
use Rattle.net.specs.Routes.{tile_of, is_child}

-- a mark for each tile of the largest grid: it stands at an index before i
abbrev pub TilesMarked : List Record → ℕ → List Bool → Type 0
TilesMarked rs i seen = (length seen ≡ 4096) × ((t : ℕ) → t < 4096 → slice_index_or seen t false ≡ some_below (λ j. nat_eq (tile_of rs j) t) i)

-- a mark for each index: a record before k is its child
abbrev pub ParentsMarked : List Record → ℕ → List Bool → Type 0
ParentsMarked rs k parents = (length parents ≡ 256) × ((i : ℕ) → i < 256 → slice_index_or parents i false ≡ some_below (is_child rs i) k)
