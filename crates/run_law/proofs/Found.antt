-- Planning by what the search finds is planning at a cost type.
use Rattle.std.proofs.Common.{◌≡◌, ℕ, List, Some, None, Option, refl, ap, subst, inl, inr}
use Rattle.net.specs.Lowest.{nothing_wrong}
use Rattle.search_theory.specs.Costs.{Lawful}
use Rattle.search_theory.specs.Entries.{Priced}
use Rattle.best_plan.specs.Cheapest.{AnswersBest, HangsTogether}
use Rattle.best_plan.proofs.Legals.{chosen_best}
use Rattle.floor_types.specs.declared.faults.PlanningFault.{PlanningFault}
use Rattle.runs.specs.Worlds.{World, limit_of, route_of}
use Rattle.runs.specs.Plans.{Prices, spares, prices}
use Rattle.runs.specs.Refusals.{planning_fault}
use Rattle.runs.specs.Calls.{PlansBy}
use Rattle.runs.proofs.Accepted.{refusals_exact}
use Rattle.run_law.specs.Found.{marks_found, found_choice, found_for, found_answer, found_world, FoundPlans}

module _ {C : Type 0} (o : Prices C) (laws : Lawful o.kind) (w : World) (k cells : ℕ) where
  hangs : planning_fault w k cells ≡ None → HangsTogether (route_of w k)
  hangs e =
      let may = (refusals_exact.planning w k cells).0 (ap nothing_wrong e) in
      let route = (may.tables.each k may.waits.listed).route in
      record { some = route.some; earlier = route.earlier }

  best : planning_fault w k cells ≡ None → AnswersBest o.kind (limit_of w k) (route_of w k) (spares w k) (prices o w k) (found_for o w k)
  best e = chosen_best laws (limit_of w k) (route_of w k) (spares w k) (prices o w k) (hangs e)

  found : (f : Option PlanningFault) → planning_fault w k cells ≡ f → (a : Option (Priced C (List ℕ))) → found_for o w k ≡ a → PlansBy o (found_choice o) w k cells (found_answer k f a) (found_world w k f a)
  found (Some f) e a d = (inl e, refl)
  found None e None d = (inr (e, refl, subst (AnswersBest o.kind (limit_of w k) (route_of w k) (spares w k) (prices o w k)) d (best e)), refl)
  found None e (Some a) d = (e, (a.what, ap marks_found d, subst (AnswersBest o.kind (limit_of w k) (route_of w k) (spares w k) (prices o w k)) d (best e), refl))

pub found_plans : {C : Type 0} (o : Prices C) → Lawful o.kind → FoundPlans o
found_plans o laws w k cells = found o laws w k cells (planning_fault w k cells) refl (found_for o w k) refl
