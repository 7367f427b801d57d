-- One small floorplan from its opening on: a strip of four tiles with two sites in tile 1 and one wire on each boundary,
-- one net place, and a net of limit 2 from tile 0 to tile 3.
use Rattle.std.specs.Prelude.{◌≡◌, ℕ, true, false, List, [], ◌∷◌, replicate, Some, None, Ok, Err, Option}
use Rattle.std.proofs.Common.{lit≤}
use Rattle.grid.specs.declared.shape.Grid.{Grid}
use Rattle.net.specs.declared.limit.Limit.{Limit}
use Rattle.net.specs.declared.records.record.Record.{Record}
use Rattle.runs.specs.Worlds.{World, being_entered, no_place, marks_of, with_net, with_seal, with_plan, without_plan}
use Rattle.runs.specs.Refusals.{entry_refusal, filing_refusal, withdrawal_refusal, question_refusal}
use Rattle.runs.specs.Calls.{Plans, Enters, Asks}
use Rattle.runs.specs.Histories.{History}
use Rattle.runs.specs.Runs.{Run, BookTrue}
use Rattle.floor_types.specs.declared.faults.EntryFault.TheVariants.{NoRoom}
use Rattle.floor_types.specs.declared.faults.PlanningFault.TheVariants.{Planned}

abbrev pub strip : Grid
strip = record { rows = 1; columns = 4; some_rows = lit≤ tt; rows_fit = lit≤ tt; some_columns = lit≤ tt; columns_fit = lit≤ tt }

abbrev pub two : Limit
two = record { value = 2; some = lit≤ tt; fits = lit≤ tt }

abbrev pub path : List Record
path =
    record { tile = 0; parent = 0; sink = false } ∷ record { tile = 1; parent = 0; sink = false }
    ∷ record { tile = 2; parent = 1; sink = false } ∷ record { tile = 3; parent = 2; sink = true } ∷ []

abbrev pub opened_strip : World
opened_strip = record {
  grid = strip;
  places = 1;
  entered = 0;
  stage = being_entered;
  sites = record { capacities = 0 ∷ 2 ∷ 0 ∷ 0 ∷ []; uses = 0 ∷ 0 ∷ 0 ∷ 0 ∷ [] };
  wires = record { capacities = 1 ∷ 1 ∷ 1 ∷ []; uses = 0 ∷ 0 ∷ 0 ∷ [] };
  nets = no_place ∷ [];
  records = replicate 256 (record { tile = 0; parent = 0; sink = false; mark = 0 });
}

abbrev pub entered_strip : World
entered_strip = with_net opened_strip two path

abbrev pub sealed_strip : World
sealed_strip = with_seal entered_strip

-- a trunk buffer in tile 1
abbrev pub trunk : List ℕ
trunk = 0 ∷ 2 ∷ 0 ∷ 0 ∷ []

abbrev pub planned_strip : World
planned_strip = with_plan sealed_strip 0 trunk

abbrev pub told : Option (List ℕ) → History
told filed = record { limit = 2; route = path; filed = filed } ∷ []

-- What such runs reach, planning with so many work cells, and what their worlds hold.
pub record RunsExist (cells : ℕ) : Type 0 where
  -- entered, sealed and planned; then one more net refused at entering and one more planning refused; then withdrawn, and
  -- filed by hand
  pub planned : Run planned_strip (told (Some trunk))
  pub withdrawn : Run (without_plan planned_strip 0) (told None)
  pub filed : Run (with_plan (without_plan planned_strip 0) 0 trunk) (told (Some trunk))
  -- the book of the planned net is true, and it books what the plan needs
  pub book : BookTrue planned_strip (told (Some trunk))
  pub sites : planned_strip.sites.uses ≡ 0 ∷ 1 ∷ 0 ∷ 0 ∷ []
  pub wires : planned_strip.wires.uses ≡ 1 ∷ 1 ∷ 1 ∷ []
  pub given_back : (without_plan planned_strip 0).sites.uses ≡ 0 ∷ 0 ∷ 0 ∷ 0 ∷ []
  pub marks : marks_of planned_strip 0 ≡ trunk
  pub cleared : marks_of (without_plan planned_strip 0) 0 ≡ 0 ∷ 0 ∷ 0 ∷ 0 ∷ []
  -- refused calls and questions are steps too
  pub full : Enters entered_strip two path (Err (NoRoom 1)) entered_strip
  pub enough : Plans sealed_strip 0 cells None planned_strip
  pub again : Plans planned_strip 0 cells (Some (Planned 0)) planned_strip
  pub asked : Asks planned_strip 0 (9 ∷ 9 ∷ 9 ∷ 9 ∷ []) (Ok tt) trunk
  -- refusals as numbers: no place left; no net; already planned; a gate that drives 3; not planned; the list too short
  pub no_place_left : entry_refusal entered_strip path ≡ 5 ∷ 1 ∷ []
  pub no_net : filing_refusal sealed_strip 1 trunk ≡ 14 ∷ 1 ∷ []
  pub already : filing_refusal planned_strip 0 trunk ≡ 15 ∷ 0 ∷ []
  pub drives : filing_refusal sealed_strip 0 (0 ∷ 0 ∷ 0 ∷ 0 ∷ []) ≡ 21 ∷ 0 ∷ 3 ∷ []
  pub waits : withdrawal_refusal sealed_strip 0 ≡ 16 ∷ 0 ∷ []
  pub short : question_refusal planned_strip 0 3 ≡ 19 ∷ 4 ∷ []
