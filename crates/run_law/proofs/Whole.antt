-- The whole law from one call of planning.
use Rattle.std.proofs.Common.{◌≡◌, ℕ, ◌+◌, ◌≤◌, true, false, ◌↔◌, List, map, length, take, drop, is_ok, Some, None, Ok, Err, Result, sym, refl, ap, ◌∙◌, subst, ⊎_elim, arith}
use Rattle.std.proofs.lemmas.List.{length-take-le, length-drop, length-map, get_or-set_same}
use Rattle.std.proofs.lemmas.Bool.{both_ways}
use Rattle.net.specs.Lowest.{fault_of, nothing_wrong}
use Rattle.net.proofs.Firsts.{nothing_none}
use Rattle.floor_types.specs.declared.places.NetPlace.{NetPlace}
use Rattle.floor_types.specs.declared.places.RecordPlace.{RecordPlace}
use Rattle.floor_types.specs.declared.faults.PlanningFault.{PlanningFault}
use Rattle.runs.specs.Worlds.{World, sealed, no_place, place_of, limit_of, count_of, first_place, rows_of, record_in, marks_of, Waits, written, remarked, with_plan}
use Rattle.runs.specs.Plans.{LegalFor, NoPlanFor}
use Rattle.runs.specs.Tables.{TablesSound}
use Rattle.runs.specs.Refusals.{planning_fault, cells_needed}
use Rattle.runs.specs.Runs.{planning, Untouched}
use Rattle.run_law.proofs.Rows.{written_own, remarked_length, remarked_marks}
use Rattle.runs.specs.Plans.{Prices, Choice, CheapestFor}
use Rattle.runs.specs.Calls.{PlansBy}
use Rattle.runs.proofs.Accepted.{refusals_exact}
use Rattle.runs.proofs.Decided.{mixes}
use Rattle.run_law.specs.Whole.{WholeFromCall}
use Rattle.run_law.proofs.Keeps.{none_some}
use Rattle.run_law.proofs.Chains.{books, tables, untouched_sound, hand_plans}

-- the marks of an accepted planning are read back from the record places, in whatever floorplan
module _ (w : World) (k : ℕ) (ms : List ℕ) (t : TablesSound w) (few : w.entered ≤ w.places) (q : Waits w k) (legal : LegalFor w k ms) where
  abbrev new : List RecordPlace
  new = remarked ms (rows_of w k)

  abbrev planned_place : NetPlace
  planned_place = record { limit = limit_of w k; records = count_of w k; planned = true }

  rows_length : length (rows_of w k) ≡ count_of w k
  rows_length = length-take-le (count_of w k) (drop (first_place k) w.records) (omega (arith, length-drop (first_place k) w.records, t.sizes.records, few, q.listed, (t.each k q.listed).records_fit))

  new_length : length new ≡ count_of w k
  new_length = remarked_length ms (rows_of w k) ∙ rows_length

  fits : first_place k + length new ≤ length w.records
  fits = omega (arith, new_length, t.sizes.records, few, q.listed, (t.each k q.listed).records_fit)

  place_own : place_of (with_plan w k ms) k ≡ planned_place
  place_own = get_or-set_same w.nets k planned_place no_place (omega (arith, t.sizes.nets, few, q.listed))

  rows_own : rows_of (with_plan w k ms) k ≡ new
  rows_own =
      ap (λ (c : ℕ). take c (drop (first_place k) (written (first_place k) new w.records))) (ap (λ (p : NetPlace). p.records) place_own ∙ sym new_length)
      ∙ written_own (first_place k) new w.records fits

  pub marks_kept : marks_of (with_plan w k ms) k ≡ ms
  marks_kept = ap (map (λ p. p.mark)) rows_own ∙ remarked_marks ms (rows_of w k) (legal.plan.each ∙ length-map (rows_of w k) record_in)

module _ {C : Type 0} (o : Prices C) (choose : Choice C) where
  cheapest_kept : (w : World) (k cells : ℕ) (r : Result C PlanningFault) (w' : World) → w.entered ≤ w.places → PlansBy o choose w k cells r w' → (cost : C) → r ≡ Ok cost → CheapestFor o w k cost (marks_of w' k)
  cheapest_kept w k cells (Ok c) w' few p cost e =
      let may = (refusals_exact.planning w k cells).0 (ap nothing_wrong p.0) in
      let best = p.1.2 in
      let same : marks_of w' k ≡ p.1.0 = ap (λ (v : World). marks_of v k) p.1.3 ∙ marks_kept w k p.1.0 may.tables few may.waits best.legal in
      subst (λ (ms : List ℕ). CheapestFor o w k cost ms) (sym same) (subst (λ (x : C). CheapestFor o w k x p.1.0) (inside e) best)
    where
      inside : {X E : Type 0} {x y : X} → ◌≡◌ {A = Result X E} (Ok x) (Ok y) → x ≡ y
      inside z = cc
  cheapest_kept w k cells (Err f) w' few p cost e = absurd cc

  refused_exactly : (w : World) (k cells : ℕ) (r : Result C PlanningFault) (w' : World) → PlansBy o choose w k cells r w' → Untouched w → Waits w k → cells_needed w k ≤ cells → ((is_ok r ≡ false) ↔ NoPlanFor w k)
  refused_exactly w k cells (Ok cost) w' p u q e = (λ x. absurd (both_ways true x refl), λ none. absurd (none p.1.0 p.1.2.legal))
  refused_exactly w k cells (Err f) w' p u q e = (λ x. ⊎_elim (λ (a : planning_fault w k cells ≡ Some f). absurd (none_some (planning_fault w k cells) f clear a)) (λ a. a.2) p.0, λ x. refl)
    where
      clear : planning_fault w k cells ≡ None
      clear = nothing_none _ ((refusals_exact.planning w k cells).1 (record { tables = untouched_sound w u; waits = q; enough = e }))

  pub whole_from_call : WholeFromCall o choose sealed
  whole_from_call w k cells r w' stage few p = record {
    call = p;
    cheapest = cheapest_kept w k cells r w' few p;
    refused_exactly = refused_exactly w k cells r w' p;
    hand_plans = hand_plans;
    books = books;
    tables = tables;
    goes_on = λ h run. planning w w' h k cells (fault_of r) run stage (mixes o choose w k cells r w' p);
  }
