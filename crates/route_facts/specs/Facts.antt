-- Facts about the records of a route.
use Rattle.std.specs.Prelude.{◌≡◌, ℕ, ◌<◌, ◌≤◌, cond, ◌&&◌, List, length, Some, None, Option, nat_lt}
use Rattle.grid.specs.declared.shape.Grid.{Grid}
use Rattle.grid.specs.Boundaries.{boundary_count, boundary_between}
use Rattle.net.specs.declared.records.record.Record.{Record}
use Rattle.net.specs.Routes.{tile_of, parent_of}
use Rattle.length_rule.specs.Children.{children}

-- the boundary between the tiles of an index and its parent; the driver crosses none
abbrev pub crossing : Grid → List Record → ℕ → Option ℕ
crossing g rs i = cond (nat_lt 0 i && nat_lt i (length rs)) (boundary_between g (tile_of rs i) (tile_of rs (parent_of rs i))) None

-- every index above 0 crosses a boundary of the grid
abbrev pub CrossesEach : Grid → List Record → Type 0
CrossesEach g rs = (i : ℕ) → 0 < i → i < length rs → (b : ℕ) × (crossing g rs i ≡ Some b) × (b < boundary_count g)

-- no two indices cross the same
abbrev pub CrossingsApart : Grid → List Record → Type 0
CrossingsApart g rs = (i j b : ℕ) → crossing g rs i ≡ Some b → crossing g rs j ≡ Some b → i ≡ j

abbrev pub child_count : List Record → ℕ → ℕ
child_count rs i = length (children rs i)

-- at most four children, and at most three past the driver
abbrev pub FewChildren : List Record → Type 0
FewChildren rs = (i : ℕ) → i < length rs → (child_count rs i ≤ 4) × (0 < i → child_count rs i ≤ 3)

abbrev pub parent_told : List Record → ℕ → Option ℕ
parent_told rs i = cond (nat_lt 0 i && nat_lt i (length rs)) (Some (parent_of rs i)) None

-- from i by parents back to 0, each earlier than the one before
pub data LeadsBack (rs : List Record) : ℕ → Type 0 where
  at_driver : LeadsBack rs 0
  through : {i : ℕ} → parent_of rs i < i → LeadsBack rs (parent_of rs i) → LeadsBack rs i

abbrev pub LeadsBackEach : List Record → Type 0
LeadsBackEach rs = (i : ℕ) → i < length rs → LeadsBack rs i
