-- What a closing meaning tells at one place.
use Rattle.std.proofs.Common.{◌≡◌, ℕ, Bool, false, cond, List, get_or}
use Rattle.stock.specs.Meaning.{Meaning, count, capacity}
use Rattle.closure.specs.Closed.{closing}
use Rattle.closure.specs.Soundness.{capacity_open, length_open}

pub count_closing : (marks : List Bool) (m : Meaning) → count (closing marks m) ≡ count m
count_closing marks m = length_open marks m.capacities

pub capacity_closing : (marks : List Bool) (m : Meaning) (place : ℕ) → capacity (closing marks m) place ≡ cond (get_or marks place false) 0 (capacity m place)
capacity_closing marks m place = capacity_open marks m.capacities place
