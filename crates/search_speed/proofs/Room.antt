-- With work cells for the most records at the largest limit, and a mark for each record, every net is searched.
use Rattle.std.proofs.Common.{◌≡◌, ℕ, ◌+◌, ◌≤◌, cond, eqb, ltb, List, length, take, Ok, Err, Option, Result, ap, ◌∙◌, mul-le-mul, arith}
use native.Mathlib.Nat.{min-le_left}
use Rattle.std.proofs.lemmas.List.{length-take, length-take-le}
use Rattle.std.proofs.lemmas.Bool.{cond-true, cond-false, le-ltb, eq-eqb}
use Rattle.net.specs.declared.records.Route.{Route}
use Rattle.net.specs.Checked.{records_of}
use Rattle.search_theory.specs.Entries.{Priced}
use Rattle.best_plan.specs.Chosen.{chosen}
use Rattle.search.specs.Answers.{cells_needed, cost_of, search_answer}
use Rattle.search.specs.declared.fault.SearchFault.{SearchFault}
use Rattle.search.specs.declared.fault.SearchFault.TheVariants.{Cells, Marks}
use Rattle.search_speed.specs.Tables.{table}
use Rattle.search_speed.specs.Crowd.{Costs, crowd_spare, crowd_price}
use Rattle.search_speed.specs.Searches.{count_then_congestion, plan_in_crowd}

enough : (limit records marks : ℕ) (plan : Option (Priced Costs (List ℕ))) → limit ≤ 16 → records ≤ 256 → marks ≡ records → search_answer limit records 4522 marks plan ≡ Ok (cost_of plan)
enough limit records marks plan h l e =
    let needed : cells_needed limit records ≤ 4522 = mul-le-mul {n₁ = records + 10} {m₁ = limit + 1} {n₂ = 266} {m₂ = 17} (omega arith) (omega arith) in
    cond-false (ltb 4522 (cells_needed limit records)) (Err (Cells (cells_needed limit records))) (cond (eqb marks records) (Ok (cost_of plan)) (Err (Marks records))) (le-ltb 4522 (cells_needed limit records) needed)
    ∙ cond-true (eqb marks records) (Ok (cost_of plan)) (Err (Marks records)) (eq-eqb marks records e)

few_records : (r : Route) → length (records_of r) ≤ 256
few_records r = simp length-take (omega (arith, r.within, min-le_left r.count (length r.records)))

-- what is answered to one who lends the first of 256 marks, in the crowd
pub found_in_crowd : (limit : ℕ) (route : Route) (count : ℕ) (marks : List ℕ) (spare : List ℕ) (prices : List (Option Costs)) (r : Result (Option Costs) SearchFault) → limit ≤ 16 → count ≡ length (records_of route) → length marks ≡ 256 → spare ≡ table crowd_spare → prices ≡ table crowd_price → r ≡ search_answer limit (length (records_of route)) 4522 (length (take count marks)) (chosen count_then_congestion limit (records_of route) spare prices) → r ≡ Ok (cost_of (plan_in_crowd limit (records_of route)))
found_in_crowd limit route count marks spare prices r h e m s p a =
    let rs = records_of route in
    let few : length rs ≤ 256 = few_records route in
    let lent : length (take count marks) ≡ length rs = length-take-le count marks (omega arith) ∙ e in
    a ∙ enough limit (length rs) (length (take count marks)) (chosen count_then_congestion limit rs spare prices) h few lent
    ∙ (ap (λ (xs : List ℕ). Ok (cost_of (chosen count_then_congestion limit rs xs prices))) s
    ∙ ap (λ (xs : List (Option Costs)). Ok (cost_of (chosen count_then_congestion limit rs (table crowd_spare) xs))) p)
