-- Tables with a place for each index of a net of 256 records.
use Rattle.std.specs.Prelude.{ℕ, List, map}
use Rattle.std.specs.List.{range_with_len}

-- what f tells of each index
abbrev pub table : {X : Type 0} → (ℕ → X) → List X
table f = map f (range_with_len 0 256)
