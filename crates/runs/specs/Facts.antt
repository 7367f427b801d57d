-- Facts that show that the statement is not hollow: which books are true and which false, and that each relation decides
-- its answer.
use Rattle.std.specs.Prelude.{◌≡◌, ℕ, ◌<◌, true, List, length, Some, Ok, Option, Result, ◌≢◌}
use Rattle.grid.specs.Tiles.{tile_count}
use Rattle.grid.specs.Boundaries.{boundary_count}
use Rattle.stock.specs.Calls.{with_use}
use Rattle.stock.specs.Meaning.{Meaning, Sound, used}
use Rattle.net.specs.declared.limit.Limit.{Limit}
use Rattle.net.specs.declared.records.record.Record.{Record}
use Rattle.net.specs.Lowest.{fault_of}
use Rattle.length_rule.specs.Refusals.{gate_fault}
use Rattle.length_rule.specs.declared.PlanFault.{PlanFault}
use Rattle.floor_types.specs.declared.places.NetPlace.{NetPlace}
use Rattle.floor_types.specs.declared.places.RecordPlace.{RecordPlace}
use Rattle.floor_types.specs.declared.faults.OpeningFault.{OpeningFault}
use Rattle.floor_types.specs.declared.faults.EntryFault.{EntryFault}
use Rattle.floor_types.specs.declared.faults.PlanningFault.{PlanningFault}
use Rattle.floor_types.specs.declared.faults.FilingFault.{FilingFault}
use Rattle.floor_types.specs.declared.faults.WithdrawalFault.{WithdrawalFault}
use Rattle.floor_types.specs.declared.faults.QuestionFault.{QuestionFault}
use Rattle.runs.specs.Worlds.{World}
use Rattle.runs.specs.Plans.{Prices, Choice}
use Rattle.runs.specs.Tables.{SizesKept}
use Rattle.runs.specs.Calls.{Opens, Opened, Enters, Seals, PlansBy, Files, FilesBy, Withdraws, Asks}
use Rattle.runs.specs.Histories.{History, net_told}
use Rattle.runs.specs.Runs.{BookTrue}

-- the same world with other stocks
abbrev pub with_stocks : World → Meaning → Meaning → World
with_stocks w sites wires = record {
  grid = w.grid;
  places = w.places;
  entered = w.entered;
  stage = w.stage;
  sites = sites;
  wires = wires;
  nets = w.nets;
  records = w.records;
}

-- the stocks are stocks, and have a place for each tile and each boundary
pub record StocksFit (w : World) : Type 0 where
  pub sites : Sound w.sites
  pub wires : Sound w.wires
  pub sizes : SizesKept w

pub record BooksTell : Type 0 where
  -- what an accepted opening answers is opened, whatever the stocks
  pub opens : (rows columns : ℕ) (sites wires : Meaning) (nets : List NetPlace) (records : List RecordPlace) (w : World)
      → Sound sites → Sound wires → Opens rows columns sites wires nets records (Ok w) → Opened w
  -- where a book is true, any other use of one tile's sites, one more or one less among them, makes it false
  pub another_site : (w : World) (h : History) (t u : ℕ) → StocksFit w → BookTrue w h → t < tile_count w.grid
      → (u ≢ used w.sites t) → BookTrue (with_stocks w (with_use w.sites t u) w.wires) h → ⊥
  -- and so does any other use of one boundary's wires
  pub another_wire : (w : World) (h : History) (b u : ℕ) → StocksFit w → BookTrue w h → b < boundary_count w.grid
      → (u ≢ used w.wires b) → BookTrue (with_stocks w w.sites (with_use w.wires b u)) h → ⊥
  -- a filed plan with an overloaded gate makes a false book
  pub overloaded : (w : World) (h : History) (k : ℕ) (ms : List ℕ) (i : ℕ) (f : PlanFault) → (net_told h k).filed ≡ Some ms
      → i < length (net_told h k).route → gate_fault (net_told h k).limit (net_told h k).route ms i ≡ Some f → BookTrue w h → ⊥

-- Two answers to the same call in the same world are equal, and so is what the call leaves.
pub record AnswersDecided : Type 0 where
  pub opening : (rows columns : ℕ) (sites wires : Meaning) (nets : List NetPlace) (records : List RecordPlace) (r r' : Result World OpeningFault)
      → Opens rows columns sites wires nets records r → Opens rows columns sites wires nets records r' → r ≡ r'
  pub entering : (w : World) (limit : Limit) (rs : List Record) (r r' : Result ℕ EntryFault) (u u' : World)
      → Enters w limit rs r u → Enters w limit rs r' u' → (r ≡ r') × (u ≡ u')
  pub sealing : (w u u' : World) → Seals w u → Seals w u' → u ≡ u'
  pub filing : (w : World) (k : ℕ) (ms : List ℕ) (f f' : Option FilingFault) (u u' : World)
      → Files w k ms f u → Files w k ms f' u' → (f ≡ f') × (u ≡ u')
  pub withdrawing : (w : World) (k : ℕ) (r r' : Result (Unit {0}) WithdrawalFault) (u u' : World)
      → Withdraws w k r u → Withdraws w k r' u' → (r ≡ r') × (u ≡ u')
  pub asking : (w : World) (k : ℕ) (list : List ℕ) (r r' : Result (Unit {0}) QuestionFault) (l l' : List ℕ)
      → Asks w k list r l → Asks w k list r' l' → (r ≡ r') × (l ≡ l')

-- The same at a cost type, for every pricing.
pub record CostsDecided {C : Type 0} (o : Prices C) : Type 0 where
  -- two plannings that choose differently answer costs that tie
  pub ties : (choose choose' : Choice C) (w : World) (k cells : ℕ) (cost cost' : C) (u u' : World)
      → PlansBy o choose w k cells (Ok cost) u → PlansBy o choose' w k cells (Ok cost') u' → (o.kind.at_most cost cost' ≡ true) × (o.kind.at_most cost' cost ≡ true)
  -- and with one choice all is decided
  pub planning : (choose : Choice C) (w : World) (k cells : ℕ) (r r' : Result C PlanningFault) (u u' : World)
      → PlansBy o choose w k cells r u → PlansBy o choose w k cells r' u' → (r ≡ r') × (u ≡ u')
  pub filing : (w : World) (k : ℕ) (ms : List ℕ) (r r' : Result C FilingFault) (u u' : World)
      → FilesBy o w k ms r u → FilesBy o w k ms r' u' → (r ≡ r') × (u ≡ u')
  -- what filing does at a cost type it does by whatever pricing: so pricings mix along a run
  pub filing_mixes : (w : World) (k : ℕ) (ms : List ℕ) (r : Result C FilingFault) (u : World)
      → FilesBy o w k ms r u → Files w k ms (fault_of r) u
