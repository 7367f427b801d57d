-- The worked examples, and what each asserts.
use Rattle.std.specs.Prelude.{◌≡◌, ℕ, ◌+◌, true, false, List, [], ◌∷◌, Some, None, Option, nat_le}
use Rattle.std.proofs.Common.{lit≤}
use Rattle.best_plan.specs.Cheapest.{Cheapest}
use Rattle.congestion.specs.Price.{congestion_price}
use Rattle.grid.specs.declared.shape.Grid.{Grid}
use Rattle.length_rule.specs.Legal.{Legal}
use Rattle.net.specs.Proper.{Proper}
use Rattle.net.specs.declared.records.record.Record.{Record}
use Rattle.search_theory.specs.Costs.{Kind}
use Rattle.shares.specs.Shares.{share_unit}

-- costs as plain numbers, whose sum is the sum
abbrev pub sums : Kind ℕ
sums = record { nothing = 0; plus = ◌+◌; at_most = nat_le }

pub data Example : Type 0 where
  -- at this capacity, use and waiting share, one site costs so much congestion
  site_price : (capacity used share price : ℕ) → Example
  -- on this grid, with this limit and these spare sites and prices along the route, a cheapest legal plan costs so much
  cheapest_plan : (grid : Grid) (limit : ℕ) (route : List Record) (spare : List ℕ) (prices : List (Option ℕ)) (cost : ℕ) → Example
  -- on this grid, with this limit and these spare sites along the route, the marks are a legal plan
  legal : (grid : Grid) (limit : ℕ) (route : List Record) (spare marks : List ℕ) → Example
  -- they are not
  not_legal : (grid : Grid) (limit : ℕ) (route : List Record) (spare marks : List ℕ) → Example
  -- no marks at all are
  none_legal : (grid : Grid) (limit : ℕ) (route : List Record) (spare : List ℕ) → Example

abbrev pub Holds : Example → Type 0
Holds (site_price capacity used share price) = congestion_price share_unit capacity used share ≡ price
Holds (cheapest_plan g limit rs spare prices cost) = Proper g rs × ((marks : List ℕ) × Cheapest sums limit rs spare prices cost marks)
Holds (legal g limit rs spare ms) = Proper g rs × Legal limit rs spare ms
Holds (not_legal g limit rs spare ms) = Proper g rs × (Legal limit rs spare ms → ⊥)
Holds (none_legal g limit rs spare) = Proper g rs × ((ms : List ℕ) → Legal limit rs spare ms → ⊥)

-- a record without a sink, and one with
abbrev pub way : (tile parent : ℕ) → Record
way tile parent = record { tile = tile; parent = parent; sink = false }

abbrev pub sink : (tile parent : ℕ) → Record
sink tile parent = record { tile = tile; parent = parent; sink = true }

-- eight tiles in a row, from the driver in the first to the sink in the last
abbrev pub long_strip : Grid
long_strip = record { rows = 1; columns = 8; some_rows = lit≤ tt; rows_fit = lit≤ tt; some_columns = lit≤ tt; columns_fit = lit≤ tt }

abbrev pub path : List Record
path = way 0 0 ∷ way 1 0 ∷ way 2 1 ∷ way 3 2 ∷ way 4 3 ∷ way 5 4 ∷ way 6 5 ∷ sink 7 6 ∷ []

-- four tiles in a row: the driver in the second has a branch of two tiles to the right and one of one tile to the left
abbrev pub strip : Grid
strip = record { rows = 1; columns = 4; some_rows = lit≤ tt; rows_fit = lit≤ tt; some_columns = lit≤ tt; columns_fit = lit≤ tt }

abbrev pub branches : List Record
branches = way 1 0 ∷ way 2 0 ∷ sink 3 1 ∷ sink 0 0 ∷ []

-- three rows of three tiles: the driver left of the middle, the join in the middle, a sink above it and one below
abbrev pub square : Grid
square = record { rows = 3; columns = 3; some_rows = lit≤ tt; rows_fit = lit≤ tt; some_columns = lit≤ tt; columns_fit = lit≤ tt }

abbrev pub join : List Record
join = way 3 0 ∷ way 4 0 ∷ sink 1 1 ∷ sink 7 1 ∷ []

abbrev pub examples : List Example
examples =
    site_price 8 3 1801800 1300
    ∷ site_price 5 4 2594592 8600
    ∷ site_price 12 2 1441440 500
    ∷ site_price 5 0 2882880 1000
    -- no site at the ends of the strip and in tiles 4 and 6, one in each other tile
    ∷ cheapest_plan long_strip 3 path (0 ∷ 1 ∷ 1 ∷ 1 ∷ 0 ∷ 1 ∷ 0 ∷ 0 ∷ []) (None ∷ Some 1300 ∷ Some 8600 ∷ Some 500 ∷ None ∷ Some 1000 ∷ None ∷ None ∷ []) 1500
    ∷ legal strip 3 branches (0 ∷ 0 ∷ 0 ∷ 0 ∷ []) (0 ∷ 0 ∷ 0 ∷ 0 ∷ [])
    ∷ not_legal strip 2 branches (0 ∷ 0 ∷ 0 ∷ 0 ∷ []) (0 ∷ 0 ∷ 0 ∷ 0 ∷ [])
    ∷ legal square 1 join (0 ∷ 2 ∷ 0 ∷ 0 ∷ []) (0 ∷ 0 ∷ 1 ∷ 1 ∷ [])
    ∷ none_legal square 1 join (0 ∷ 1 ∷ 0 ∷ 0 ∷ [])
    ∷ legal square 2 join (0 ∷ 1 ∷ 0 ∷ 0 ∷ []) (0 ∷ 2 ∷ 0 ∷ 0 ∷ [])
    ∷ []
