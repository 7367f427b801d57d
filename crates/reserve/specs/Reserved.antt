-- A part of each capacity held back.
use Rattle.std.specs.Prelude.{ℕ, ◌+◌, ◌-◌, ◌*◌, ◌/◌, List, map}
use Rattle.stock.specs.Making.{figure_refusal}
use Rattle.stock.specs.Meaning.{Meaning}
use Rattle.layer.specs.Lowered.{telling}

-- making a percentage
abbrev pub percent_refusal : ℕ → List ℕ
percent_refusal = figure_refusal 100

-- so many percent of a capacity, rounded up
abbrev pub held_back : ℕ → ℕ → ℕ
held_back percent capacity = (capacity * percent + 99) / 100

abbrev pub left : ℕ → ℕ → ℕ
left percent capacity = capacity - held_back percent capacity

abbrev pub reserved : ℕ → Meaning → Meaning
reserved percent m = telling (map (left percent) m.capacities) m
