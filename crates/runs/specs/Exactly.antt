-- When each call is accepted, told without the order of its tests, and the claim that its refusals leave exactly that.
use Rattle.std.specs.Prelude.{◌≡◌, ℕ, ◌+◌, ◌*◌, ◌<◌, ◌≤◌, List, length, Some, Decides, Option}
use Rattle.grid.specs.declared.shape.Grid.{Grid}
use Rattle.grid.specs.Tiles.{tile_count}
use Rattle.grid.specs.Boundaries.{boundary_count}
use Rattle.stock.specs.declared.fault.StockFault.{StockFault}
use Rattle.stock.specs.declared.fault.StockFault.TheVariants.{Full, Lacking}
use Rattle.stock.specs.Meaning.{Meaning, count, capacity, used}
use Rattle.net.specs.declared.records.record.Record.{Record}
use Rattle.net.specs.Lowest.{nothing_wrong}
use Rattle.net.specs.Proper.{Proper}
use Rattle.net.specs.Routes.{most_records, tile_of}
use Rattle.length_rule.specs.Gates.{need}
use Rattle.floor_types.specs.declared.places.NetPlace.{NetPlace}
use Rattle.floor_types.specs.declared.places.RecordPlace.{RecordPlace}
use Rattle.floor_types.specs.declared.faults.WireFault.{WireFault}
use Rattle.floor_types.specs.declared.faults.EntryFault.TheVariants.{Wire}
use Rattle.floor_types.specs.declared.faults.WithdrawalFault.TheVariants.{Sites}
use Rattle.runs.specs.Worlds.{World, Waits, IsPlanned, count_of, route_of, marks_of, crossed_at}
use Rattle.runs.specs.Plans.{LegalFor}
use Rattle.runs.specs.Tables.{TablesSound}
use Rattle.runs.specs.Refusals.{most_net_places, opening_fault, entry_fault, cells_needed, planning_fault, filing_fault, withdrawal_fault, question_fault}

-- a place for each tile and each boundary, nothing in use, and tables of the right sizes
pub record MayOpen (g : Grid) (sites wires : Meaning) (nets : List NetPlace) (records : List RecordPlace) : Type 0 where
  pub site_places : count sites ≡ tile_count g
  pub wire_places : count wires ≡ boundary_count g
  pub sites_unused : (t : ℕ) → t < count sites → used sites t ≡ 0
  pub wires_unused : (b : ℕ) → b < count wires → used wires b ≡ 0
  pub some_places : 1 ≤ length nets
  pub places_fit : length nets ≤ most_net_places
  pub record_places : length records ≡ most_records * length nets

-- sound tables, a place left, a route, and a spare wire on each boundary that it crosses
pub record MayEnter (w : World) (rs : List Record) : Type 0 where
  pub tables : TablesSound w
  pub place_left : w.entered < w.places
  pub route : Proper w.grid rs
  pub wire_left : (i b : ℕ) → i < length rs → crossed_at w.grid rs i ≡ Some b → used w.wires b + 1 ≤ capacity w.wires b

-- sound tables, a waiting net, and enough work cells: then it is looked for a plan
pub record MayLook (w : World) (k cells : ℕ) : Type 0 where
  pub tables : TablesSound w
  pub waits : Waits w k
  pub enough : cells_needed w k ≤ cells

-- sound tables, a waiting net, and a legal plan for it
pub record MayFile (w : World) (k : ℕ) (ms : List ℕ) : Type 0 where
  pub tables : TablesSound w
  pub waits : Waits w k
  pub legal : LegalFor w k ms

-- sound tables, and a planned net whose buffers' sites are all in use
pub record MayWithdraw (w : World) (k : ℕ) : Type 0 where
  pub tables : TablesSound w
  pub planned : IsPlanned w k
  pub in_use : (i : ℕ) → i < length (route_of w k) → need (route_of w k) (marks_of w k) i ≤ used w.sites (tile_of (route_of w k) i)

-- sound tables, a planned net, and a list as long as its marks
pub record MayAsk (w : World) (k n : ℕ) : Type 0 where
  pub tables : TablesSound w
  pub planned : IsPlanned w k
  pub as_many : n ≡ count_of w k

abbrev pub DecidedBy : {F : Type 0} → Option F → Type 0 → Type 0
DecidedBy fault may = Decides (nothing_wrong fault) may

pub record RefusalsExact : Type 0 where
  pub opening : (g : Grid) (sites wires : Meaning) (nets : List NetPlace) (records : List RecordPlace)
      → DecidedBy (opening_fault g sites wires nets records) (MayOpen g sites wires nets records)
  pub entering : (w : World) (rs : List Record) → DecidedBy (entry_fault w rs) (MayEnter w rs)
  pub planning : (w : World) (k cells : ℕ) → DecidedBy (planning_fault w k cells) (MayLook w k cells)
  pub filing : (w : World) (k : ℕ) (ms : List ℕ) → DecidedBy (filing_fault w k ms) (MayFile w k ms)
  pub withdrawing : (w : World) (k : ℕ) → DecidedBy (withdrawal_fault w k) (MayWithdraw w k)
  pub asking : (w : World) (k n : ℕ) → DecidedBy (question_fault w k n) (MayAsk w k n)
  -- no wire towards the parent means that the boundary between them is full
  pub wire_told : (w : World) (rs : List Record) (f : WireFault) → entry_fault w rs ≡ Some (Wire f)
      → (b : ℕ) × (crossed_at w.grid rs f.index ≡ Some b) × (f.fault ≡ Full b)
  -- what cannot be given back is lacking in a tile of the route
  pub site_told : (w : World) (k : ℕ) (f : StockFault) → withdrawal_fault w k ≡ Some (Sites f)
      → (i : ℕ) × (i < length (route_of w k)) × (f ≡ Lacking (tile_of (route_of w k) i))
