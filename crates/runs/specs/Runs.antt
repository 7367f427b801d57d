-- Whole runs of calls from an opening, refused calls and questions counted, and when a book is true.
use Rattle.std.specs.Prelude.{◌≡◌, ℕ, ◌<◌, ◌≤◌, true, false, List, [], length, Some, None, Option, Result}
use Rattle.std.specs.List.{AllByRecursion}
use Rattle.grid.specs.Tiles.{tile_count}
use Rattle.grid.specs.Boundaries.{boundary_count}
use Rattle.stock.specs.Meaning.{capacity, used}
use Rattle.net.specs.declared.limit.Limit.{Limit}
use Rattle.net.specs.declared.records.record.Record.{Record}
use Rattle.net.specs.Lowest.{fault_of}
use Rattle.length_rule.specs.Gates.{gates_at}
use Rattle.length_rule.specs.Marks.{mark_at}
use Rattle.floor_types.specs.declared.faults.EntryFault.{EntryFault}
use Rattle.floor_types.specs.declared.faults.PlanningFault.{PlanningFault}
use Rattle.floor_types.specs.declared.faults.FilingFault.{FilingFault}
use Rattle.floor_types.specs.declared.faults.WithdrawalFault.{WithdrawalFault}
use Rattle.floor_types.specs.declared.faults.QuestionFault.{QuestionFault}
use Rattle.runs.specs.Worlds.{World, being_entered, sealed, limit_of, route_of, marks_of, is_planned}
use Rattle.runs.specs.Calls.{Opened, Enters, Seals, Plans, Files, Withdraws, Asks}
use Rattle.runs.specs.Histories.{History, net_told, after_entering, after_filing, after_withdrawing, buffers_filed, crossing_nets}

-- A chain of calls from an opening to the world w, with the history h. Each call starts from the very world that the call
-- before it left: nothing else altered the stocks or tables, and no others of equal size stood in for them.
pub data Run : World → History → Type 0 where
  opening : (w : World) → Opened w → Run w []
  entering : (w w' : World) (h : History) (limit : Limit) (rs : List Record) (r : Result ℕ EntryFault)
      → Run w h → w.stage ≡ being_entered → Enters w limit rs r w' → Run w' (after_entering (fault_of r) h limit rs)
  sealing : (w w' : World) (h : History) → Run w h → w.stage ≡ being_entered → Seals w w' → Run w' h
  -- the marks filed by a planning are those that it keeps in the net's record places
  planning : (w w' : World) (h : History) (k cells : ℕ) (f : Option PlanningFault)
      → Run w h → w.stage ≡ sealed → Plans w k cells f w' → Run w' (after_filing f h k (marks_of w' k))
  filing : (w w' : World) (h : History) (k : ℕ) (ms : List ℕ) (f : Option FilingFault)
      → Run w h → w.stage ≡ sealed → Files w k ms f w' → Run w' (after_filing f h k ms)
  withdrawing : (w w' : World) (h : History) (k : ℕ) (r : Result (Unit {0}) WithdrawalFault)
      → Run w h → w.stage ≡ sealed → Withdraws w k r w' → Run w' (after_withdrawing (fault_of r) h k)
  asking : (w : World) (h : History) (k : ℕ) (list list' : List ℕ) (r : Result (Unit {0}) QuestionFault)
      → Run w h → w.stage ≡ sealed → Asks w k list r list' → Run w h

-- Since opening, only its own calls used its stocks and tables. A world holds what the stocks mean: asking a stock, or
-- making a counted stock over its tables again, leaves the world as it is.
abbrev pub Untouched : World → Type 0
Untouched w = (h : History) × Run w h

-- each gate of a plan drives at most the limit
abbrev pub Driven : ℕ → List Record → List ℕ → Type 0
Driven limit rs ms = (i : ℕ) → i < length rs → AllByRecursion (λ g. g.drives ≤ limit) (gates_at rs ms i)

-- The book is true of what the calls were handed and accepted. The tables have no part in it.
pub record BookTrue (w : World) (h : History) : Type 0 where
  -- a tile's used sites are exactly the buffers filed there, and do not pass its capacity
  pub sites_exact : (t : ℕ) → t < tile_count w.grid → used w.sites t ≡ buffers_filed h t
  pub sites_within : (t : ℕ) → t < tile_count w.grid → used w.sites t ≤ capacity w.sites t
  -- a boundary's used wires are exactly its crossing nets, and do not pass its capacity
  pub wires_exact : (b : ℕ) → b < boundary_count w.grid → used w.wires b ≡ crossing_nets w.grid h b
  pub wires_within : (b : ℕ) → b < boundary_count w.grid → used w.wires b ≤ capacity w.wires b
  -- no gate of a filed plan drives more than its net's limit
  pub gates : (k : ℕ) (ms : List ℕ) → (net_told h k).filed ≡ Some ms → Driven (net_told h k).limit (net_told h k).route ms

-- what the tables tell is what the calls were handed and accepted
pub record TablesTell (w : World) (h : History) : Type 0 where
  pub as_many : length h ≡ w.entered
  pub limits : (k : ℕ) → k < w.entered → limit_of w k ≡ (net_told h k).limit
  pub routes : (k : ℕ) → k < w.entered → route_of w k ≡ (net_told h k).route
  pub filed : (k : ℕ) (ms : List ℕ) → k < w.entered → (net_told h k).filed ≡ Some ms → (is_planned w k ≡ true) × (marks_of w k ≡ ms)
  pub waiting : (k : ℕ) → k < w.entered → (net_told h k).filed ≡ None → (is_planned w k ≡ false) × ((i : ℕ) → mark_at (marks_of w k) i ≡ 0)
