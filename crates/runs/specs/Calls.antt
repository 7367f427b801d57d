-- Each call as a relation: what it was handed, what it answers, and the worlds before and after it. A refused call leaves
-- the world as it was.
use Rattle.std.specs.Prelude.{◌≡◌, ℕ, ◌<◌, ◌≤◌, ◌⊎◌, List, length, Some, None, Ok, Err, Option, Result}
use Rattle.grid.specs.declared.shape.Grid.{Grid}
use Rattle.grid.specs.declared.shape.GridFault.{GridFault}
use Rattle.grid.specs.Making.{made}
use Rattle.grid.specs.Tiles.{tile_count}
use Rattle.grid.specs.Boundaries.{boundary_count}
use Rattle.stock.specs.Meaning.{Meaning, Sound, used}
use Rattle.net.specs.declared.limit.Limit.{Limit}
use Rattle.net.specs.declared.records.record.Record.{Record}
use Rattle.net.specs.Checked.{refused_or}
use Rattle.net.specs.Lowest.{fault_of}
use Rattle.floor_types.specs.declared.places.NetPlace.{NetPlace}
use Rattle.floor_types.specs.declared.places.RecordPlace.{RecordPlace}
use Rattle.floor_types.specs.declared.faults.OpeningFault.{OpeningFault}
use Rattle.floor_types.specs.declared.faults.OpeningFault.TheVariants as Opening
use Rattle.floor_types.specs.declared.faults.EntryFault.{EntryFault}
use Rattle.floor_types.specs.declared.faults.PlanningFault.{PlanningFault}
use Rattle.floor_types.specs.declared.faults.PlanningFault.TheVariants as Planning
use Rattle.floor_types.specs.declared.faults.FilingFault.{FilingFault}
use Rattle.floor_types.specs.declared.faults.WithdrawalFault.{WithdrawalFault}
use Rattle.floor_types.specs.declared.faults.QuestionFault.{QuestionFault}
use Rattle.runs.specs.Worlds.{World, being_entered, marks_of, with_net, with_seal, with_plan, without_plan}
use Rattle.runs.specs.Plans.{Prices, LegalFor, NoPlanFor, cost_for, CheapestFor, Choice, chosen_for}
use Rattle.runs.specs.Tables.{SizesKept}
use Rattle.runs.specs.Refusals.{most_net_places, opening_fault, entry_fault, planning_fault, filing_fault, withdrawal_fault, question_fault}

-- the world that a call leaves: `new` where nothing is refused
abbrev pub left_by : {F : Type 0} → Option F → World → World → World
left_by None w new = new
left_by (Some f) w new = w

-- Opening takes the sides of a grid, both stocks and both tables, and alters none: its world is made of them.
abbrev pub opened_world : Grid → Meaning → Meaning → List NetPlace → List RecordPlace → World
opened_world g sites wires nets records = record {
  grid = g;
  places = length nets;
  entered = 0;
  stage = being_entered;
  sites = sites;
  wires = wires;
  nets = nets;
  records = records;
}

abbrev pub Opens : ℕ → ℕ → Meaning → Meaning → List NetPlace → List RecordPlace → Result World OpeningFault → Type 0
Opens rows columns sites wires nets records r =
    ((f : GridFault) × (made rows columns ≡ Err f) × (r ≡ Err (Opening.Grid f)))
    ⊎ ((g : Grid) × (made rows columns ≡ Ok (g.rows, g.columns)) × (r ≡ refused_or (opened_world g sites wires nets records) (opening_fault g sites wires nets records)))

-- a world as an accepted opening leaves it
pub record Opened (w : World) : Type 0 where
  pub sites_sound : Sound w.sites
  pub wires_sound : Sound w.wires
  pub sizes : SizesKept w
  pub some_places : 1 ≤ w.places
  pub places_fit : w.places ≤ most_net_places
  pub sites_unused : (t : ℕ) → t < tile_count w.grid → used w.sites t ≡ 0
  pub wires_unused : (b : ℕ) → b < boundary_count w.grid → used w.wires b ≡ 0
  pub no_net : w.entered ≡ 0
  pub unsealed : w.stage ≡ being_entered

-- Entering a net answers its number, counted from 0.
pub record Enters (w : World) (limit : Limit) (rs : List Record) (r : Result ℕ EntryFault) (w' : World) : Type 0 where
  pub answer : r ≡ refused_or w.entered (entry_fault w rs)
  pub after : w' ≡ left_by (fault_of r) w (with_net w limit rs)

-- Sealing refuses nothing.
abbrev pub Seals : World → World → Type 0
Seals w w' = w' ≡ with_seal w

-- a refusal of planning: one that is tested before, else that no plan for the net is legal
abbrev pub PlanRefused : World → ℕ → ℕ → PlanningFault → Type 0
PlanRefused w k cells f = (planning_fault w k cells ≡ Some f) ⊎ ((planning_fault w k cells ≡ None) × (f ≡ Planning.NoPlan k) × NoPlanFor w k)

-- Planning net k with so many work cells, by whatever pricing: a legal plan is kept and booked, or nothing changes.
abbrev pub Plans : World → ℕ → ℕ → Option PlanningFault → World → Type 0
Plans w k cells None w' = (planning_fault w k cells ≡ None) × ((ms : List ℕ) × LegalFor w k ms × (w' ≡ with_plan w k ms))
Plans w k cells (Some f) w' = PlanRefused w k cells f × (w' ≡ w)

-- Planning at a cost type: a cheapest legal plan is kept and booked, its cost is answered, and its marks are the chosen ones.
abbrev pub PlansBy : {C : Type 0} → Prices C → Choice C → World → ℕ → ℕ → Result C PlanningFault → World → Type 0
PlansBy o choose w k cells (Ok cost) w' =
    (planning_fault w k cells ≡ None) × ((ms : List ℕ) × (chosen_for choose o w k ≡ Some ms) × CheapestFor o w k cost ms × (w' ≡ with_plan w k ms))
PlansBy o choose w k cells (Err f) w' = PlanRefused w k cells f × (w' ≡ w)

-- The work cells after planning: as they were where it was refused before it looked for a plan. Else they are free.
abbrev pub CellsLeft : {V : Type 0} → World → ℕ → List V → List V → Type 0
CellsLeft w k cells cells' = (f : PlanningFault) → planning_fault w k (length cells) ≡ Some f → cells' ≡ cells

-- Filing marks made by hand: by whatever pricing, and at a cost type, where their cost is answered.
pub record Files (w : World) (k : ℕ) (ms : List ℕ) (f : Option FilingFault) (w' : World) : Type 0 where
  pub answer : f ≡ filing_fault w k ms
  pub after : w' ≡ left_by f w (with_plan w k ms)

pub record FilesBy {C : Type 0} (o : Prices C) (w : World) (k : ℕ) (ms : List ℕ) (r : Result C FilingFault) (w' : World) : Type 0 where
  pub answer : r ≡ refused_or (cost_for o w k ms) (filing_fault w k ms)
  pub after : w' ≡ left_by (fault_of r) w (with_plan w k ms)

pub record Withdraws (w : World) (k : ℕ) (r : Result (Unit {0}) WithdrawalFault) (w' : World) : Type 0 where
  pub answer : r ≡ refused_or tt (withdrawal_fault w k)
  pub after : w' ≡ left_by (fault_of r) w (without_plan w k)

-- Asking copies a planned net's marks to a list, and leaves the world as it is.
abbrev pub copied : {F : Type 0} → Option F → List ℕ → List ℕ → List ℕ
copied None list marks = marks
copied (Some f) list marks = list

pub record Asks (w : World) (k : ℕ) (list : List ℕ) (r : Result (Unit {0}) QuestionFault) (list' : List ℕ) : Type 0 where
  pub answer : r ≡ refused_or tt (question_fault w k (length list))
  pub after : list' ≡ copied (fault_of r) list (marks_of w k)
