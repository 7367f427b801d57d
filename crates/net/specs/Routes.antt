-- The records of a net, and which of them are a route on a grid.
use Rattle.std.specs.Prelude.{ℕ, Bool, false, cond, not, ◌&&◌, ◌||◌, List, [], ◌∷◌, length, get_or, Some, None, Option, ◌==◌, nat_eq, nat_le, nat_lt, slice_index_or}
use Rattle.grid.specs.declared.shape.Grid.{Grid}
use Rattle.grid.specs.Tiles.{has_tile}
use Rattle.grid.specs.Boundaries.{neighbours}
use Rattle.net.specs.declared.records.record.Record.{Record}
use Rattle.net.specs.declared.records.record.RouteFault.{RouteFault}
use Rattle.net.specs.declared.records.record.RouteFault.TheVariants.{Count, OffGrid, Parent, Apart, Repeated, Useless}
use Rattle.net.specs.Lowest.{or_else, lowest, unless, some_below, nothing_wrong, fault_told}

abbrev pub no_record : Record
no_record = record { tile = 0; parent = 0; sink = false }

abbrev pub tile_of : List Record → ℕ → ℕ
tile_of rs i = (get_or rs i no_record).tile

abbrev pub parent_of : List Record → ℕ → ℕ
parent_of rs i = (get_or rs i no_record).parent

abbrev pub sink_at : List Record → ℕ → Bool
sink_at rs i = (get_or rs i no_record).sink

-- k is a child of i; index 0 is nobody's child
abbrev pub is_child : List Record → ℕ → ℕ → Bool
is_child rs i k = nat_lt 0 k && parent_of rs k == i

abbrev pub has_child : List Record → ℕ → Bool
has_child rs i = some_below (is_child rs i) (length rs)

-- p can be the parent of index i: it stands earlier, and the driver names itself
abbrev pub parent_fits : ℕ → ℕ → Bool
parent_fits p i = cond (i == 0) (p == 0) (nat_lt p i)

-- the driver, or a neighbour of its parent's tile
abbrev pub beside_parent : Grid → List Record → ℕ → Bool
beside_parent g rs i = i == 0 || neighbours g (tile_of rs i) (tile_of rs (parent_of rs i))

-- the tile of index i stands at an earlier index
abbrev pub stands_earlier : List Record → ℕ → Bool
stands_earlier rs i = some_below (λ j. nat_eq (tile_of rs j) (tile_of rs i)) i

-- what is wrong with the record at index i, in the order of the tests
abbrev pub record_fault : Grid → List Record → ℕ → Option RouteFault
record_fault g rs i =
    or_else (unless (has_tile g (tile_of rs i)) (OffGrid i))
    (or_else (unless (parent_fits (parent_of rs i) i) (Parent i))
    (or_else (unless (beside_parent g rs i) (Apart i))
    (unless (not (stands_earlier rs i)) (Repeated i))))

-- an index without a child holds a sink
abbrev pub end_fault : List Record → ℕ → Option RouteFault
end_fault rs i = unless (sink_at rs i || has_child rs i) (Useless i)

-- a net has 1 to 256 records
abbrev pub most_records : ℕ
most_records = 256

abbrev pub right_count : ℕ → Bool
right_count n = nat_le 1 n && nat_le n most_records

-- what is wrong with the records as a route: how many they are, then the lowest index whose record is wrong, then the
-- lowest that ends in nothing
abbrev pub route_fault : Grid → List Record → Option RouteFault
route_fault g rs =
    or_else (unless (right_count (length rs)) (Count (length rs)))
    (or_else (lowest (record_fault g rs) (length rs))
    (lowest (end_fault rs) (length rs)))

abbrev pub is_route : Grid → List Record → Bool
is_route g rs = nothing_wrong (route_fault g rs)

abbrev pub record_told : List Record → ℕ → Option Record
record_told rs i = cond (nat_lt i (length rs)) (Some (slice_index_or rs i no_record)) None

-- the number and the value of each refusal
abbrev pub told : RouteFault → List ℕ
told (Count n) = 7 ∷ n ∷ []
told (OffGrid i) = 8 ∷ i ∷ []
told (Parent i) = 9 ∷ i ∷ []
told (Apart i) = 10 ∷ i ∷ []
told (Repeated i) = 11 ∷ i ∷ []
told (Useless i) = 12 ∷ i ∷ []

-- what is refused, as numbers; nothing where the records are a route
abbrev pub route_refusal : Grid → List Record → List ℕ
route_refusal g rs = fault_told told (route_fault g rs)
