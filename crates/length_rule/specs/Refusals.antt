-- What the check of a plan made by hand refuses.
use Rattle.std.specs.Prelude.{ℕ, cond, List, [], ◌∷◌, length, None, Option, ◌==◌, nat_le}
use Rattle.net.specs.declared.records.record.Record.{Record}
use Rattle.net.specs.Lowest.{or_else, lowest, unless, fault_told}
use Rattle.length_rule.specs.declared.PlanFault.{PlanFault}
use Rattle.length_rule.specs.declared.PlanFault.TheVariants.{Marks, Mark, Drives, Sites}
use Rattle.length_rule.specs.Marks.{mark_at}
use Rattle.length_rule.specs.declared.Gate.{Gate}
use Rattle.length_rule.specs.Gates.{gates_at, need}
use Rattle.length_rule.specs.Legal.{spare_at}

-- a mark is at most 3, and 0 at index 0
abbrev pub mark_fault : List ℕ → ℕ → Option PlanFault
mark_fault ms i = unless (nat_le (mark_at ms i) (cond (i == 0) 0 3)) (Mark i)

-- the first of these gates of index i that drives more than the limit
abbrev pub over_limit : ℕ → ℕ → List Gate → Option PlanFault
over_limit limit i [] = None
over_limit limit i (g ∷ gs) = or_else (unless (nat_le g.drives limit) (Drives i g.drives)) (over_limit limit i gs)

abbrev pub gate_fault : ℕ → List Record → List ℕ → ℕ → Option PlanFault
gate_fault limit rs ms i = over_limit limit i (gates_at rs ms i)

abbrev pub site_fault : List Record → List ℕ → List ℕ → ℕ → Option PlanFault
site_fault rs spare ms i = unless (nat_le (need rs ms i) (spare_at spare i)) (Sites i)

-- as many marks as records; then the lowest index with a wrong mark; then the lowest whose gate drives too much, a head
-- gate before a trunk gate; then the lowest whose tile needs more than its spare sites
abbrev pub plan_fault : ℕ → List Record → List ℕ → List ℕ → Option PlanFault
plan_fault limit rs spare ms =
    or_else (unless ((length ms) == (length rs)) (Marks (length rs)))
    (or_else (lowest (mark_fault ms) (length rs))
    (or_else (lowest (gate_fault limit rs ms) (length rs))
    (lowest (site_fault rs spare ms) (length rs))))

-- the number and the values of each refusal
abbrev pub told : PlanFault → List ℕ
told (Marks n) = 19 ∷ n ∷ []
told (Mark i) = 20 ∷ i ∷ []
told (Drives i length) = 21 ∷ i ∷ length ∷ []
told (Sites i) = 22 ∷ i ∷ []

-- what is refused, as numbers; nothing where the plan is accepted
abbrev pub plan_refusal : ℕ → List Record → List ℕ → List ℕ → List ℕ
plan_refusal limit rs spare ms = fault_told told (plan_fault limit rs spare ms)
