-- What a reserved meaning tells at one place.
use Rattle.std.proofs.Common.{◌≡◌, ℕ}
use Rattle.std.proofs.lemmas.List.{length-map}
use Rattle.stock.specs.Meaning.{Meaning, count, capacity}
use Rattle.reserve.specs.Reserved.{left, reserved}
use Rattle.reserve.specs.Soundness.{capacity_left}

pub count_reserved : (percent : ℕ) (m : Meaning) → count (reserved percent m) ≡ count m
count_reserved percent m = length-map m.capacities (left percent)

pub capacity_reserved : (percent : ℕ) (m : Meaning) (place : ℕ) → capacity (reserved percent m) place ≡ left percent (capacity m place)
capacity_reserved percent m place = capacity_left percent m.capacities place
