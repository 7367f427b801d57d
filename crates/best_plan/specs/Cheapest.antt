-- What a cheapest legal plan is, and the claim that the search chooses one wherever there is a legal plan.
use Rattle.std.specs.Prelude.{◌≡◌, ℕ, ◌<◌, ◌≤◌, true, List, length, Some, None, Option}
use Rattle.net.specs.declared.records.record.Record.{Record}
use Rattle.net.specs.Routes.{parent_of}
use Rattle.length_rule.specs.Legal.{Legal}
use Rattle.length_rule.specs.Costs.{plan_cost}
use Rattle.search_theory.specs.Costs.{Kind}
use Rattle.search_theory.specs.Entries.{Priced}
use Rattle.best_plan.specs.Chosen.{chosen, ToldAlike}

-- these marks are legal, this is their cost, and no legal plan costs less
pub record Cheapest {C : Type 0} (o : Kind C) (limit : ℕ) (rs : List Record) (spare : List ℕ) (prices : List (Option C)) (cost : C) (ms : List ℕ) : Type 0 where
  pub legal : Legal limit rs spare ms
  pub its_cost : cost ≡ plan_cost o.nothing o.plus rs prices ms
  pub least : (other : List ℕ) → Legal limit rs spare other → o.at_most cost (plan_cost o.nothing o.plus rs prices other) ≡ true

abbrev pub NoLegalPlan : ℕ → List Record → List ℕ → Type 0
NoLegalPlan limit rs spare = (ms : List ℕ) → Legal limit rs spare ms → ⊥

-- an answer with its cost and marks, or none, says the truth
abbrev pub AnswersBest : {C : Type 0} → Kind C → ℕ → List Record → List ℕ → List (Option C) → Option (Priced C (List ℕ)) → Type 0
AnswersBest o limit rs spare prices None = NoLegalPlan limit rs spare
AnswersBest o limit rs spare prices (Some a) = Cheapest o limit rs spare prices a.cost a.what

-- there is a driver, and every other index hangs from an earlier one, as on any route
pub record HangsTogether (rs : List Record) : Type 0 where
  pub some : 1 ≤ length rs
  pub earlier : (i : ℕ) → 0 < i → i < length rs → parent_of rs i < i

abbrev pub PlansStand : {C : Type 0} → Kind C → Type 0
PlansStand {C} o = (limit : ℕ) (rs : List Record) (spare : List ℕ) (prices : List (Option C)) → HangsTogether rs
    → AnswersBest o limit rs spare prices (chosen o limit rs spare prices)

-- what is chosen rests on the net, its spare sites and its prices where a site is spare, and on nothing else
abbrev pub ChoiceAlone : {C : Type 0} → Kind C → Type 0
ChoiceAlone {C} o = (limit : ℕ) (rs : List Record) (spare spare' : List ℕ) (prices prices' : List (Option C)) → HangsTogether rs
    → ToldAlike rs spare prices spare' prices' → chosen o limit rs spare prices ≡ chosen o limit rs spare' prices'
