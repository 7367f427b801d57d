-- The tiles of a grid: how many there are, their numbers, and the place of each.
use Rattle.std.specs.Prelude.{◌≡◌, ℕ, ◌+◌, ◌*◌, ◌/◌, ◌%◌, Bool, true, cond, ◌&&◌, Some, None, Option, nat_lt}
use Rattle.grid.specs.declared.shape.Grid.{Grid}

-- a row and a column, told together
abbrev pub Place : Type 0
Place = ℕ × ℕ

abbrev pub tile_count : Grid → ℕ
tile_count g = g.rows * g.columns

-- a tile's number
abbrev pub number : Grid → Place → ℕ
number g p = p.0 * g.columns + p.1

-- the place of the tile of this number
abbrev pub place : Grid → ℕ → Place
place g t = (t / g.columns, t % g.columns)

-- the grid has this row and this column
abbrev pub has_place : Grid → Place → Bool
has_place g p = nat_lt p.0 g.rows && nat_lt p.1 g.columns

-- the grid has a tile of this number
abbrev pub has_tile : Grid → ℕ → Bool
has_tile g t = nat_lt t (tile_count g)

abbrev pub number_told : Grid → Place → Option ℕ
number_told g p = cond (has_place g p) (Some (number g p)) None

abbrev pub place_told : Grid → ℕ → Option Place
place_told g t = cond (has_tile g t) (Some (place g t)) None

-- a place's number is a tile's, and that tile's place is the place again
abbrev pub NumberTellsPlace : Grid → Type 0
NumberTellsPlace g = (p : Place) → has_place g p ≡ true → (has_tile g (number g p) ≡ true) × (place g (number g p) ≡ p)

-- a tile's place is on the grid, and that place's number is the tile's again
abbrev pub PlaceTellsNumber : Grid → Type 0
PlaceTellsNumber g = (t : ℕ) → has_tile g t ≡ true → (has_place g (place g t) ≡ true) × (number g (place g t) ≡ t)
