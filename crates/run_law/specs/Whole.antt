-- What one call of planning has to show for the whole law.
use Rattle.std.specs.Prelude.{◌≡◌, ℕ, ◌≤◌, Result}
use Rattle.floor_types.specs.declared.faults.PlanningFault.{PlanningFault}
use Rattle.runs.specs.Worlds.{Stage, World}
use Rattle.runs.specs.Plans.{Prices, Choice}
use Rattle.runs.specs.Calls.{PlansBy}
use Rattle.runs.specs.Law.{WholeLaw}

-- in a floorplan of this stage, which has no more nets than places, the call alone
abbrev pub WholeFromCall : {C : Type 0} → Prices C → Choice C → Stage → Type 0
WholeFromCall {C} o choose stage = (w : World) (k cells : ℕ) (r : Result C PlanningFault) (w' : World)
    → w.stage ≡ stage → w.entered ≤ w.places → PlansBy o choose w k cells r w' → WholeLaw o choose w k cells r w'
