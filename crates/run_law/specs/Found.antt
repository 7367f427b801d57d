-- Planning by what the search finds: what it answers and leaves, and the claim that this is planning at a cost type.
use Rattle.std.specs.Prelude.{ℕ, List, Some, None, Ok, Err, Option, Result}
use Rattle.search_theory.specs.Entries.{Priced}
use Rattle.best_plan.specs.Chosen.{chosen}
use Rattle.floor_types.specs.declared.faults.PlanningFault.{PlanningFault}
use Rattle.floor_types.specs.declared.faults.PlanningFault.TheVariants.{NoPlan}
use Rattle.runs.specs.Worlds.{World, limit_of, route_of, with_plan}
use Rattle.runs.specs.Plans.{Prices, Choice, spares, prices}
use Rattle.runs.specs.Refusals.{planning_fault}
use Rattle.runs.specs.Calls.{PlansBy}

abbrev pub marks_found : {C : Type 0} → Option (Priced C (List ℕ)) → Option (List ℕ)
marks_found None = None
marks_found (Some a) = Some a.what

-- the search's choice
abbrev pub found_choice : {C : Type 0} → Prices C → Choice C
found_choice o limit rs spare offered = marks_found (chosen o.kind limit rs spare offered)

-- what the search finds for net k
abbrev pub found_for : {C : Type 0} → Prices C → World → ℕ → Option (Priced C (List ℕ))
found_for o w k = chosen o.kind (limit_of w k) (route_of w k) (spares w k) (prices o w k)

-- by what was refused before, and else by what was found
abbrev pub found_answer : {C : Type 0} → ℕ → Option PlanningFault → Option (Priced C (List ℕ)) → Result C PlanningFault
found_answer k (Some f) found = Err f
found_answer k None None = Err (NoPlan k)
found_answer k None (Some a) = Ok a.cost

abbrev pub found_world : {C : Type 0} → World → ℕ → Option PlanningFault → Option (Priced C (List ℕ)) → World
found_world w k (Some f) found = w
found_world w k None None = w
found_world w k None (Some a) = with_plan w k a.what

abbrev pub FoundPlans : {C : Type 0} → Prices C → Type 0
FoundPlans o = (w : World) (k cells : ℕ)
    → PlansBy o (found_choice o) w k cells (found_answer k (planning_fault w k cells) (found_for o w k)) (found_world w k (planning_fault w k cells) (found_for o w k))
