-- The world of a floorplan: its own numbers, what both stocks mean, and what both tables hold; what the tables tell of a
-- net; and the worlds that accepted calls leave.
use Rattle.std.specs.Prelude.{◌≡◌, ℕ, suc, ◌+◌, ◌-◌, ◌*◌, ◌<◌, Bool, true, false, cond, List, [], ◌∷◌, ◌++◌, map, length, take, drop, Some, None, Option, ◌==◌, nat_lt, slice_index_or, slice_set}
use Rattle.grid.specs.declared.shape.Grid.{Grid}
use Rattle.grid.specs.Boundaries.{boundary_between}
use Rattle.stock.specs.Meaning.{Meaning}
use Rattle.net.specs.declared.limit.Limit.{Limit}
use Rattle.net.specs.declared.records.record.Record.{Record}
use Rattle.net.specs.Lowest.{some_below}
use Rattle.net.specs.Routes.{most_records, tile_of, parent_of}
use Rattle.length_rule.specs.Children.{indices, sum_over}
use Rattle.length_rule.specs.Gates.{need}
use Rattle.floor_types.specs.declared.places.NetPlace.{NetPlace}
use Rattle.floor_types.specs.declared.places.RecordPlace.{RecordPlace}

-- what a floorplan allows: entering nets and sealing, or planning, filing, withdrawing and asking
pub data Stage : Type 0 where
  being_entered : Stage
  sealed : Stage

-- `places` are the net places at opening, `entered` how many nets were entered
pub record World : Type 0 where
  pub grid : Grid
  pub places : ℕ
  pub entered : ℕ
  pub stage : Stage
  pub sites : Meaning
  pub wires : Meaning
  pub nets : List NetPlace
  pub records : List RecordPlace

-- What the tables tell of net k. Its record places are the first of the 256 that belong to it.
abbrev pub no_place : NetPlace
no_place = record { limit = 0; records = 0; planned = false }

abbrev pub place_of : World → ℕ → NetPlace
place_of w k = slice_index_or w.nets k no_place

abbrev pub limit_of : World → ℕ → ℕ
limit_of w k = (place_of w k).limit

abbrev pub count_of : World → ℕ → ℕ
count_of w k = (place_of w k).records

abbrev pub is_planned : World → ℕ → Bool
is_planned w k = (place_of w k).planned

abbrev pub first_place : ℕ → ℕ
first_place k = most_records * k

abbrev pub rows_of : World → ℕ → List RecordPlace
rows_of w k = take (count_of w k) (drop (first_place k) w.records)

abbrev pub record_in : RecordPlace → Record
record_in p = record { tile = p.tile; parent = p.parent; sink = p.sink }

abbrev pub route_of : World → ℕ → List Record
route_of w k = map record_in (rows_of w k)

abbrev pub marks_of : World → ℕ → List ℕ
marks_of w k = map (λ p. p.mark) (rows_of w k)

-- net k was entered, and waits for a plan
pub record Waits (w : World) (k : ℕ) : Type 0 where
  pub listed : k < w.entered
  pub unplanned : is_planned w k ≡ false

-- net k was entered, and is planned
pub record IsPlanned (w : World) (k : ℕ) : Type 0 where
  pub listed : k < w.entered
  pub planned : is_planned w k ≡ true

-- the boundary between the tile of an index above 0 and that of its parent
abbrev pub crossed_at : Grid → List Record → ℕ → Option ℕ
crossed_at g rs i = cond (nat_lt 0 i) (boundary_between g (tile_of rs i) (tile_of rs (parent_of rs i))) None

abbrev pub is_there : Option ℕ → ℕ → Bool
is_there None b = false
is_there (Some c) b = c == b

-- the route crosses the boundary b
abbrev pub crosses : Grid → List Record → ℕ → Bool
crosses g rs b = some_below (λ i. is_there (crossed_at g rs i) b) (length rs)

-- the buffers that a plan has in the tile t
abbrev pub buffers_in : List Record → List ℕ → ℕ → ℕ
buffers_in rs ms t = sum_over (indices (length rs)) (λ i. cond (tile_of rs i == t) (need rs ms i) 0)

-- a stock whose use at each place is as f makes it of the place and the use before
abbrev pub uses_by : (ℕ → ℕ → ℕ) → ℕ → List ℕ → List ℕ
uses_by f place [] = []
uses_by f place (u ∷ us) = f place u ∷ uses_by f (suc place) us

abbrev pub with_uses : (ℕ → ℕ → ℕ) → Meaning → Meaning
with_uses f m = record { capacities = m.capacities; uses = uses_by f 0 m.uses }

-- the record places from `at` on are these, and all others as they were
abbrev pub written : ℕ → List RecordPlace → List RecordPlace → List RecordPlace
written at new rs = take at rs ++ (new ++ drop (at + length new) rs)

-- the places of a route that waits: marks 0
abbrev pub fresh : List Record → List RecordPlace
fresh rs = map (λ r. record { tile = r.tile; parent = r.parent; sink = r.sink; mark = 0 }) rs

abbrev pub with_mark : ℕ → RecordPlace → RecordPlace
with_mark m p = record { tile = p.tile; parent = p.parent; sink = p.sink; mark = m }

-- the places with these marks, and 0 where there is none
abbrev pub remarked : List ℕ → List RecordPlace → List RecordPlace
remarked [] [] = []
remarked [] (p ∷ ps) = with_mark 0 p ∷ remarked [] ps
remarked (m ∷ ms) [] = []
remarked (m ∷ ms) (p ∷ ps) = with_mark m p ∷ remarked ms ps

-- The worlds that accepted calls leave.

-- a net more, which waits, and a wire more in use on each boundary that its route crosses
abbrev pub with_net : World → Limit → List Record → World
with_net w limit rs = record {
  grid = w.grid;
  places = w.places;
  entered = w.entered + 1;
  stage = w.stage;
  sites = w.sites;
  wires = with_uses (λ b u. u + cond (crosses w.grid rs b) 1 0) w.wires;
  nets = slice_set w.nets w.entered (record { limit = limit.value; records = length rs; planned = false });
  records = written (first_place w.entered) (fresh rs) w.records;
}

abbrev pub with_seal : World → World
with_seal w = record {
  grid = w.grid;
  places = w.places;
  entered = w.entered;
  stage = sealed;
  sites = w.sites;
  wires = w.wires;
  nets = w.nets;
  records = w.records;
}

-- net k planned or not, with these marks, and the sites' uses as f makes them
abbrev pub with_marks : World → ℕ → Bool → List ℕ → (ℕ → ℕ → ℕ) → World
with_marks w k planned ms f = record {
  grid = w.grid;
  places = w.places;
  entered = w.entered;
  stage = w.stage;
  sites = with_uses f w.sites;
  wires = w.wires;
  nets = slice_set w.nets k (record { limit = limit_of w k; records = count_of w k; planned = planned });
  records = written (first_place k) (remarked ms (rows_of w k)) w.records;
}

-- net k planned: its marks kept, and its buffers' sites in use
abbrev pub with_plan : World → ℕ → List ℕ → World
with_plan w k ms = with_marks w k true ms (λ t u. u + buffers_in (route_of w k) ms t)

-- net k waiting again: its marks 0, and its buffers' sites given back
abbrev pub without_plan : World → ℕ → World
without_plan w k = with_marks w k false [] (λ t u. u - buffers_in (route_of w k) (marks_of w k) t)
