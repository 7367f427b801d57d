-- How an answer of the search stands beside trying every plan.
use Rattle.std.specs.Prelude.{ℕ, Bool, true, false, ◌&&◌, List, length, take, replicate, Some, None, Ok, Err, Option, Result}
use Rattle.net.specs.declared.limit.LimitFault.{LimitFault}
use Rattle.net.specs.Limits.{limited}
use Rattle.best_plan.specs.Chosen.{chosen}
use Rattle.search_theory.specs.Costs.{Kind}
use Rattle.search.specs.declared.fault.SearchFault.{SearchFault}
use Rattle.search.specs.Answers.{search_answer, marks_after}
use Rattle.every_plan.specs.declared.comparing.Verdict.{Verdict}
use Rattle.every_plan.specs.Nets.{Net}
use Rattle.every_plan.specs.Shapes.{shape_room}
use Rattle.every_plan.specs.Trying.{accepted_cost, by_trying}

-- no mark set, for so many of the records that a shape may have
abbrev pub blank : (records : ℕ) → List ℕ
blank records = take records (replicate shape_room 0)

abbrev pub verdict : (right plan : Bool) → Verdict
verdict right plan = record { right = right; plan = plan }

-- the verdict on a search that is refused or not made
abbrev pub no_answer : Verdict
no_answer = verdict false false

-- both none, or two costs that tie
abbrev pub tie : {C : Type 0} → (C → C → Bool) → Option C → Option C → Bool
tie at_most None None = true
tie at_most None (Some y) = false
tie at_most (Some x) None = false
tie at_most (Some x) (Some y) = at_most x y && at_most y x

-- an answer is right where it ties with the cheapest of all plans, and the marks that stand after it are accepted at its cost
abbrev pub judged : {C : Type 0} → (C → C → Bool) → Result (Option C) SearchFault → (cheapest accepted : Option C) → Verdict
judged at_most (Err fault) cheapest accepted = no_answer
judged at_most (Ok None) cheapest accepted = verdict (tie at_most None cheapest) false
judged at_most (Ok (Some cost)) cheapest accepted = verdict (tie at_most (Some cost) cheapest && tie at_most (Some cost) accepted) true

module _ {C : Type 0} (o : Kind C) (net : Net C) (cells : ℕ) where
  -- how the search answers at a limit, with so many work cells and these marks lent
  abbrev pub searched : (marks : List ℕ) (limit : ℕ) → Verdict
  searched marks limit =
      let choice = chosen o limit net.records net.spare net.prices in
      judged o.at_most (search_answer limit (length net.records) cells (length marks) choice) (by_trying o net limit)
      (accepted_cost o net limit (marks_after limit (length net.records) cells marks choice))

  abbrev pub where_limited : (marks : List ℕ) → Result ℕ LimitFault → Verdict
  where_limited marks (Ok limit) = searched marks limit
  where_limited marks (Err fault) = no_answer

  -- how it answers at the limit of a figure, with blank marks lent
  abbrev pub compared : (figure : ℕ) → Verdict
  compared figure = where_limited (blank (length net.records)) (limited figure)
