-- What is printed of a refused plan.
use Rattle.std.specs.Prelude.{ℕ, List, ◌++◌, codes}
use Rattle.std.specs.Fmt.{decimal}
use Rattle.length_rule.specs.declared.PlanFault.{PlanFault}
use Rattle.length_rule.specs.declared.PlanFault.TheVariants.{Marks, Mark, Drives, Sites}

-- the number of the refusal, then its values in words
abbrev pub shown : PlanFault → List ℕ
shown (Marks n) = codes "19: " ++ (decimal n ++ codes " marks needed")
shown (Mark i) = codes "20: the mark of index " ++ decimal i
shown (Drives i length) = codes "21: a gate of index " ++ (decimal i ++ (codes " drives " ++ decimal length))
shown (Sites i) = codes "22: the tile of index " ++ (decimal i ++ codes " needs more sites")
