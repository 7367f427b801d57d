-- Each refusal of a floorplan's calls: its number, then its values, then the same of the fault that it carries.
use Rattle.std.specs.Prelude.{ℕ, List, [], ◌∷◌, Ok, Err, Result}
use Rattle.grid.specs.Making.{told as grid_told}
use Rattle.length_rule.specs.Refusals.{told as plan_told}
use Rattle.net.specs.Routes.{told as route_told}
use Rattle.stock.specs.declared.fault.StockFault.{StockFault}
use Rattle.stock.specs.Faults.{told as stock_told}
use Rattle.floor_types.specs.declared.faults.TableFault.{TableFault}
use Rattle.floor_types.specs.declared.faults.TableFault.TheVariants.{Sizes, Net}
use Rattle.floor_types.specs.declared.faults.OpeningFault.{OpeningFault}
use Rattle.floor_types.specs.declared.faults.OpeningFault.TheVariants.{Grid, SitePlaces, WirePlaces, SiteInUse, WireInUse, RecordPlaces}
use Rattle.floor_types.specs.declared.faults.WireFault.{WireFault}
use Rattle.floor_types.specs.declared.faults.EntryFault.{EntryFault}
use Rattle.floor_types.specs.declared.faults.EntryFault.TheVariants as Entry
use Rattle.floor_types.specs.declared.faults.PlanningFault.{PlanningFault}
use Rattle.floor_types.specs.declared.faults.PlanningFault.TheVariants as Planning
use Rattle.floor_types.specs.declared.faults.FilingFault.{FilingFault}
use Rattle.floor_types.specs.declared.faults.FilingFault.TheVariants as Filing
use Rattle.floor_types.specs.declared.faults.WithdrawalFault.{WithdrawalFault}
use Rattle.floor_types.specs.declared.faults.WithdrawalFault.TheVariants as Withdrawal
use Rattle.floor_types.specs.declared.faults.QuestionFault.{QuestionFault}
use Rattle.floor_types.specs.declared.faults.QuestionFault.TheVariants as Question

abbrev pub table_told : TableFault → List ℕ
table_told (Sizes places) = 23 ∷ places ∷ []
table_told (Net net) = 23 ∷ net ∷ []

abbrev pub opening_told : OpeningFault → List ℕ
opening_told (Grid f) = grid_told f
opening_told (SitePlaces n) = 2 ∷ n ∷ []
opening_told (WirePlaces n) = 2 ∷ n ∷ []
opening_told (SiteInUse place) = 3 ∷ place ∷ []
opening_told (WireInUse place) = 3 ∷ place ∷ []
opening_told (RecordPlaces n) = 4 ∷ n ∷ []

abbrev pub wire_told : WireFault → List ℕ
wire_told f = 13 ∷ f.index ∷ stock_told f.fault

abbrev pub entry_told : EntryFault → List ℕ
entry_told (Entry.Tables f) = table_told f
entry_told (Entry.NoRoom places) = 5 ∷ places ∷ []
entry_told (Entry.Route f) = route_told f
entry_told (Entry.Wire f) = wire_told f

abbrev pub planning_told : PlanningFault → List ℕ
planning_told (Planning.Tables f) = table_told f
planning_told (Planning.NoNet net) = 14 ∷ net ∷ []
planning_told (Planning.Planned net) = 15 ∷ net ∷ []
planning_told (Planning.Cells needed) = 17 ∷ needed ∷ []
planning_told (Planning.NoPlan net) = 18 ∷ net ∷ []

abbrev pub filing_told : FilingFault → List ℕ
filing_told (Filing.Tables f) = table_told f
filing_told (Filing.NoNet net) = 14 ∷ net ∷ []
filing_told (Filing.Planned net) = 15 ∷ net ∷ []
filing_told (Filing.Plan f) = plan_told f

abbrev pub withdrawal_told : WithdrawalFault → List ℕ
withdrawal_told (Withdrawal.Tables f) = table_told f
withdrawal_told (Withdrawal.NoNet net) = 14 ∷ net ∷ []
withdrawal_told (Withdrawal.Waits net) = 16 ∷ net ∷ []
withdrawal_told (Withdrawal.Sites f) = stock_told f

abbrev pub question_told : QuestionFault → List ℕ
question_told (Question.Tables f) = table_told f
question_told (Question.NoNet net) = 14 ∷ net ∷ []
question_told (Question.Waits net) = 16 ∷ net ∷ []
question_told (Question.Marks needed) = 19 ∷ needed ∷ []

-- a stock's fault, with the index for which the stock was called
abbrev pub with_index : {A : Type 0} → ℕ → Result A StockFault → Result A WireFault
with_index i (Ok a) = Ok a
with_index i (Err f) = Err (record { index = i; fault = f })
