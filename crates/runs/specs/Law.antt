-- The law of a floorplan, whole: what one call of planning promises, for every run that led to it.
use Rattle.std.specs.Prelude.{◌≡◌, ℕ, ◌≤◌, false, ◌↔◌, List, is_ok, None, Ok, Option, Result}
use Rattle.net.specs.Lowest.{fault_of}
use Rattle.floor_types.specs.declared.faults.PlanningFault.{PlanningFault}
use Rattle.floor_types.specs.declared.faults.FilingFault.{FilingFault}
use Rattle.runs.specs.Worlds.{World, Waits, marks_of}
use Rattle.runs.specs.Plans.{Prices, LegalFor, NoPlanFor, CheapestFor, Choice}
use Rattle.runs.specs.Refusals.{cells_needed}
use Rattle.runs.specs.Calls.{PlansBy, Files}
use Rattle.runs.specs.Histories.{History, after_filing}
use Rattle.runs.specs.Runs.{Run, Untouched, BookTrue, TablesTell}

-- no chain of calls brings a floorplan from its opening to a false book
abbrev pub NoRunToFalseBook : Type 0
NoRunToFalseBook = (w : World) (h : History) → Run w h → BookTrue w h

-- in an untouched floorplan the tables tell what the calls were handed and accepted
abbrev pub TablesStayTrue : Type 0
TablesStayTrue = (w : World) (h : History) → Run w h → TablesTell w h

-- in an untouched floorplan a waiting net's hand plan is accepted exactly when it is legal
abbrev pub HandPlansExact : Type 0
HandPlansExact = (w w' : World) (k : ℕ) (ms : List ℕ) (f : Option FilingFault)
    → Untouched w → Waits w k → Files w k ms f w' → ((f ≡ None) ↔ LegalFor w k ms)

-- One call of planning, of net k with so many work cells, which found the world w, answered r and left the world w'.
pub record WholeLaw {C : Type 0} (o : Prices C) (choose : Choice C) (w : World) (k cells : ℕ) (r : Result C PlanningFault) (w' : World) : Type 0 where
  pub call : PlansBy o choose w k cells r w'
  -- an accepted net keeps a legal plan, the cost answered is its own, and every other legal plan costs at least as much
  pub cheapest : (cost : C) → r ≡ Ok cost → CheapestFor o w k cost (marks_of w' k)
  -- with enough work cells, a waiting net of an untouched floorplan is refused exactly when no plan for it is legal
  pub refused_exactly : Untouched w → Waits w k → cells_needed w k ≤ cells → ((is_ok r ≡ false) ↔ NoPlanFor w k)
  pub hand_plans : HandPlansExact
  pub books : NoRunToFalseBook
  pub tables : TablesStayTrue
  -- this call goes on with each run that led to it, so that the books of the runs are those of the calls
  pub goes_on : (h : History) → Run w h → Run w' (after_filing (fault_of r) h k (marks_of w' k))
