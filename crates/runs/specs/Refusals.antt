-- What each call refuses, in the order of its tests; None where it is accepted. For each, the same as numbers.
use Rattle.std.specs.Prelude.{ℕ, ◌+◌, ◌*◌, Bool, not, ◌&&◌, List, length, Some, None, Option, ◌==◌, nat_le, nat_lt}
use Rattle.grid.specs.declared.shape.Grid.{Grid}
use Rattle.grid.specs.Tiles.{tile_count}
use Rattle.grid.specs.Boundaries.{boundary_count}
use Rattle.stock.specs.Meaning.{Meaning, count, used}
use Rattle.stock.specs.Calls.{take_answer, give_answer}
use Rattle.net.specs.declared.records.record.Record.{Record}
use Rattle.net.specs.Lowest.{or_else, lowest, unless, fault_of, fault_told}
use Rattle.net.specs.Routes.{most_records, tile_of, route_fault}
use Rattle.length_rule.specs.Gates.{need}
use Rattle.length_rule.specs.Refusals.{plan_fault}
use Rattle.floor_types.specs.Faults.{opening_told, entry_told, planning_told, filing_told, withdrawal_told, question_told, with_index}
use Rattle.floor_types.specs.declared.places.NetPlace.{NetPlace}
use Rattle.floor_types.specs.declared.places.RecordPlace.{RecordPlace}
use Rattle.floor_types.specs.declared.faults.OpeningFault.{OpeningFault}
use Rattle.floor_types.specs.declared.faults.OpeningFault.TheVariants.{SitePlaces, WirePlaces, SiteInUse, WireInUse, RecordPlaces}
use Rattle.floor_types.specs.declared.faults.EntryFault.{EntryFault}
use Rattle.floor_types.specs.declared.faults.EntryFault.TheVariants as Entry
use Rattle.floor_types.specs.declared.faults.PlanningFault.{PlanningFault}
use Rattle.floor_types.specs.declared.faults.PlanningFault.TheVariants as Planning
use Rattle.floor_types.specs.declared.faults.FilingFault.{FilingFault}
use Rattle.floor_types.specs.declared.faults.FilingFault.TheVariants as Filing
use Rattle.floor_types.specs.declared.faults.WithdrawalFault.{WithdrawalFault}
use Rattle.floor_types.specs.declared.faults.WithdrawalFault.TheVariants as Withdrawal
use Rattle.floor_types.specs.declared.faults.QuestionFault.{QuestionFault}
use Rattle.floor_types.specs.declared.faults.QuestionFault.TheVariants as Question
use Rattle.runs.specs.Worlds.{World, limit_of, count_of, is_planned, route_of, marks_of, crossed_at}
use Rattle.runs.specs.Plans.{spares}
use Rattle.runs.specs.Tables.{table_fault}

-- a fault from below, inside one of this call
abbrev pub carried : {F G : Type 0} → (F → G) → Option F → Option G
carried inside None = None
carried inside (Some f) = Some (inside f)

-- Opening, on a grid: the stocks' places, the places in use, the tables.
abbrev pub most_net_places : ℕ
most_net_places = 1024

abbrev pub tables_fit : ℕ → ℕ → Bool
tables_fit nets records = (nat_le 1 nets && nat_le nets most_net_places) && records == most_records * nets

abbrev pub opening_fault : Grid → Meaning → Meaning → List NetPlace → List RecordPlace → Option OpeningFault
opening_fault g sites wires nets records =
    or_else (unless (count sites == tile_count g) (SitePlaces (count sites)))
    (or_else (unless (count wires == boundary_count g) (WirePlaces (count wires)))
    (or_else (lowest (λ t. unless (used sites t == 0) (SiteInUse t)) (count sites))
    (or_else (lowest (λ b. unless (used wires b == 0) (WireInUse b)) (count wires))
    (unless (tables_fit (length nets) (length records)) (RecordPlaces (length records))))))

-- Entering: the tables, a place left, the route, then a wire towards the parent at each index.
abbrev pub wire_fault : Meaning → ℕ → Option ℕ → Option EntryFault
wire_fault wires i None = None
wire_fault wires i (Some b) = carried Entry.Wire (fault_of (with_index i (take_answer wires b 1)))

abbrev pub entry_fault : World → List Record → Option EntryFault
entry_fault w rs =
    or_else (carried Entry.Tables (table_fault w))
    (or_else (unless (nat_lt w.entered w.places) (Entry.NoRoom w.places))
    (or_else (carried Entry.Route (route_fault w.grid rs))
    (lowest (λ i. wire_fault w.wires i (crossed_at w.grid rs i)) (length rs))))

-- Planning, before it looks for a plan: the tables, the net, that it waits, and the work cells.
abbrev pub cells_needed : World → ℕ → ℕ
cells_needed w k = (count_of w k + 10) * (limit_of w k + 1)

abbrev pub planning_fault : World → ℕ → ℕ → Option PlanningFault
planning_fault w k cells =
    or_else (carried Planning.Tables (table_fault w))
    (or_else (unless (nat_lt k w.entered) (Planning.NoNet k))
    (or_else (unless (not (is_planned w k)) (Planning.Planned k))
    (unless (nat_le (cells_needed w k) cells) (Planning.Cells (cells_needed w k)))))

-- Filing: the tables, the net, that it waits, and the plan.
abbrev pub filing_fault : World → ℕ → List ℕ → Option FilingFault
filing_fault w k ms =
    or_else (carried Filing.Tables (table_fault w))
    (or_else (unless (nat_lt k w.entered) (Filing.NoNet k))
    (or_else (unless (not (is_planned w k)) (Filing.Planned k))
    (carried Filing.Plan (plan_fault (limit_of w k) (route_of w k) (spares w k) ms))))

-- Withdrawing: the tables, the net, that it is planned, then what the sites answer at each index.
abbrev pub giving_fault : World → ℕ → ℕ → Option WithdrawalFault
giving_fault w k i =
    carried Withdrawal.Sites (fault_of (give_answer w.sites (tile_of (route_of w k) i) (need (route_of w k) (marks_of w k) i)))

abbrev pub withdrawal_fault : World → ℕ → Option WithdrawalFault
withdrawal_fault w k =
    or_else (carried Withdrawal.Tables (table_fault w))
    (or_else (unless (nat_lt k w.entered) (Withdrawal.NoNet k))
    (or_else (unless (is_planned w k) (Withdrawal.Waits k))
    (lowest (giving_fault w k) (length (route_of w k)))))

-- Asking for a planned net's marks, with a list of n: the tables, the net, that it is planned, and the list's length.
abbrev pub question_fault : World → ℕ → ℕ → Option QuestionFault
question_fault w k n =
    or_else (carried Question.Tables (table_fault w))
    (or_else (unless (nat_lt k w.entered) (Question.NoNet k))
    (or_else (unless (is_planned w k) (Question.Waits k))
    (unless (n == count_of w k) (Question.Marks (count_of w k)))))

abbrev pub opening_refusal : Grid → Meaning → Meaning → List NetPlace → List RecordPlace → List ℕ
opening_refusal g sites wires nets records = fault_told opening_told (opening_fault g sites wires nets records)

abbrev pub entry_refusal : World → List Record → List ℕ
entry_refusal w rs = fault_told entry_told (entry_fault w rs)

-- where `found` tells whether the net has a legal plan
abbrev pub planning_refusal : World → ℕ → ℕ → Bool → List ℕ
planning_refusal w k cells found = fault_told planning_told (or_else (planning_fault w k cells) (unless found (Planning.NoPlan k)))

abbrev pub filing_refusal : World → ℕ → List ℕ → List ℕ
filing_refusal w k ms = fault_told filing_told (filing_fault w k ms)

abbrev pub withdrawal_refusal : World → ℕ → List ℕ
withdrawal_refusal w k = fault_told withdrawal_told (withdrawal_fault w k)

abbrev pub question_refusal : World → ℕ → ℕ → List ℕ
question_refusal w k n = fault_told question_told (question_fault w k n)
