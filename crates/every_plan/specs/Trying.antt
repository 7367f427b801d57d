-- The cheapest of all plans that the check accepts, found by trying them.
use Rattle.std.specs.Prelude.{ℕ, Bool, cond, if◌then◌else◌, List, length, take, Some, None, Option}
use Rattle.std.specs.List.{range_with_len, filter_map, reduce}
use Rattle.net.specs.Lowest.{nothing_wrong}
use Rattle.length_rule.specs.Costs.{plan_cost}
use Rattle.length_rule.specs.Refusals.{plan_fault}
use Rattle.search_theory.specs.Costs.{Kind}
use Rattle.every_plan.specs.Codes.{marks_of, plans}
use Rattle.every_plan.specs.Nets.{Net}

-- the lower of two costs, the first where they tie
abbrev pub lower : {C : Type 0} → (C → C → Bool) → C → C → C
lower at_most x y = if at_most x y then x else y

module _ {C : Type 0} (o : Kind C) (net : Net C) (limit : ℕ) where
  -- what a plan costs, where the check accepts it
  abbrev pub accepted_cost : (marks : List ℕ) → Option C
  accepted_cost marks =
      cond (nothing_wrong (plan_fault limit net.records net.spare marks)) (Some (plan_cost o.nothing o.plus net.records net.prices marks)) None

  -- what the plan of a code costs, where the check accepts it
  abbrev pub cost_of_code : (code : ℕ) → Option C
  cost_of_code code = accepted_cost (take (length net.records) (marks_of code))

  -- the lowest of all that are accepted, the first where they tie
  abbrev pub by_trying : Option C
  by_trying = reduce (lower o.at_most) (filter_map cost_of_code (range_with_len 0 (plans (length net.records))))
