-- Which tiles are neighbours, the boundaries between them, and their numbers.
use Rattle.std.specs.Prelude.{◌≡◌, ℕ, ◌+◌, ◌-◌, ◌*◌, ◌<◌, min, Bool, cond, ◌&&◌, ◌||◌, ◌⊎◌, Some, None, Option, ◌==◌}
use Rattle.grid.specs.declared.shape.Grid.{Grid}
use Rattle.grid.specs.Tiles.{Place, place, has_tile}

abbrev pub one_apart : ℕ → ℕ → Bool
one_apart a b = a + 1 == b || b + 1 == a

-- in one row and the columns one apart, or in one column and the rows one apart
abbrev pub share_a_side : Place → Place → Bool
share_a_side p q = (p.0 == q.0 && one_apart p.1 q.1) || (p.1 == q.1 && one_apart p.0 q.0)

-- two tiles of the grid that share a side
abbrev pub neighbours : Grid → ℕ → ℕ → Bool
neighbours g s t = (has_tile g s && has_tile g t) && share_a_side (place g s) (place g t)

-- those right of a tile are numbered first, row by row, then those below one
abbrev pub boundary_count : Grid → ℕ
boundary_count g = g.rows * (g.columns - 1) + (g.rows - 1) * g.columns

abbrev pub boundary_right : Grid → Place → ℕ
boundary_right g p = p.0 * (g.columns - 1) + p.1

abbrev pub boundary_below : Grid → Place → ℕ
boundary_below g p = g.rows * (g.columns - 1) + p.0 * g.columns + p.1

-- of two places that share a side: right of the left one, or below the upper one
abbrev pub boundary_at : Grid → Place → Place → ℕ
boundary_at g p q = cond (p.0 == q.0) (boundary_right g (p.0, min p.1 q.1)) (boundary_below g (min p.0 q.0, p.1))

-- the boundary between two tiles, where they are neighbours
abbrev pub boundary_between : Grid → ℕ → ℕ → Option ℕ
boundary_between g s t = cond (neighbours g s t) (Some (boundary_at g (place g s) (place g t))) None

-- whichever tile is named first
abbrev pub BoundaryEitherWay : Grid → Type 0
BoundaryEitherWay g = (s t : ℕ) → boundary_between g s t ≡ boundary_between g t s

abbrev pub BoundaryCounted : Grid → Type 0
BoundaryCounted g = (s t b : ℕ) → boundary_between g s t ≡ Some b → b < boundary_count g

-- the tiles s and t are u and v, in this order or the other
abbrev pub SamePair : ℕ → ℕ → ℕ → ℕ → Type 0
SamePair s t u v = ((s ≡ u) × (t ≡ v)) ⊎ ((s ≡ v) × (t ≡ u))

-- two different pairs of neighbours never have the same boundary
abbrev pub BoundaryTellsPair : Grid → Type 0
BoundaryTellsPair g = (s t u v b : ℕ) → boundary_between g s t ≡ Some b → boundary_between g u v ≡ Some b → SamePair s t u v

-- each number below the count is the boundary of a pair
abbrev pub EachBoundaryHasPair : Grid → Type 0
EachBoundaryHasPair g = (b : ℕ) → b < boundary_count g → (s : ℕ) × (t : ℕ) × (boundary_between g s t ≡ Some b)
