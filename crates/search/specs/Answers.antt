-- What a search answers and writes.
use Rattle.std.specs.Prelude.{◌≡◌, ℕ, ◌+◌, ◌*◌, cond, List, [], ◌∷◌, length, Some, None, Ok, Err, Option, Result, ◌==◌, nat_lt}
use Rattle.net.specs.declared.records.record.Record.{Record}
use Rattle.search_theory.specs.Costs.{Kind}
use Rattle.search_theory.specs.Entries.{Priced}
use Rattle.best_plan.specs.Cheapest.{Cheapest, NoLegalPlan}
use Rattle.best_plan.specs.Chosen.{chosen, ToldAlike}
use Rattle.search.specs.declared.fault.SearchFault.{SearchFault}
use Rattle.search.specs.declared.fault.SearchFault.TheVariants.{Cells, Marks}

-- the work cells that a net of so many records needs
abbrev pub cells_needed : ℕ → ℕ → ℕ
cells_needed limit records = (records + 10) * (limit + 1)

-- the number and the value of each refusal
abbrev pub told : SearchFault → List ℕ
told (Cells n) = 17 ∷ n ∷ []
told (Marks n) = 19 ∷ n ∷ []

-- what is refused, as numbers, of so many work cells and marks; nothing where the search is made
abbrev pub search_refusal : (limit records cells marks : ℕ) → List ℕ
search_refusal limit records cells marks =
    cond (nat_lt cells (cells_needed limit records)) (17 ∷ cells_needed limit records ∷ []) (cond (marks == records) [] (19 ∷ records ∷ []))

abbrev pub cost_of : {C : Type 0} → Option (Priced C (List ℕ)) → Option C
cost_of None = None
cost_of (Some a) = Some a.cost

-- the cost of the plan that is chosen, none where none is, or the refusal
abbrev pub search_answer : {C : Type 0} → (limit records cells marks : ℕ) → Option (Priced C (List ℕ)) → Result (Option C) SearchFault
search_answer limit records cells marks chosen =
    cond (nat_lt cells (cells_needed limit records)) (Err (Cells (cells_needed limit records))) (cond (marks == records) (Ok (cost_of chosen)) (Err (Marks records)))

-- the marks of the plan that is chosen; where none is, those that were there
abbrev pub marks_of_chosen : {C : Type 0} → List ℕ → Option (Priced C (List ℕ)) → List ℕ
marks_of_chosen before None = before
marks_of_chosen before (Some a) = a.what

-- the marks after a search that so many work cells were lent to
abbrev pub marks_after : {C : Type 0} → (limit records cells : ℕ) → List ℕ → Option (Priced C (List ℕ)) → List ℕ
marks_after limit records cells before chosen =
    cond (nat_lt cells (cells_needed limit records)) before (cond (length before == records) (marks_of_chosen before chosen) before)

-- What an answer says of the marks that stand after it: they are a cheapest legal plan of this cost, or no plan is legal.
-- A refusal says nothing of plans.
abbrev pub TellsBest : {C : Type 0} → Kind C → ℕ → List Record → List ℕ → List (Option C) → Result (Option C) SearchFault → List ℕ → Type 0
TellsBest o limit rs spare prices (Ok (Some cost)) marks = Cheapest o limit rs spare prices cost marks
TellsBest o limit rs spare prices (Ok None) marks = NoLegalPlan limit rs spare
TellsBest o limit rs spare prices (Err f) marks = Unit {0}

-- what is chosen for this net rests on nothing but its records, its spare sites, and its prices where a site is spare
abbrev pub RestsOnNet : {C : Type 0} → Kind C → ℕ → List Record → List ℕ → List (Option C) → Type 0
RestsOnNet {C = C} o limit rs spare prices = (spare' : List ℕ) (prices' : List (Option C)) → ToldAlike rs spare prices spare' prices' → chosen o limit rs spare prices ≡ chosen o limit rs spare' prices'
