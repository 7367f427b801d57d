-- The sum of a list of work cells, from nothing.
use Rattle.std.specs.Prelude.{List, [], ◌∷◌}

abbrev pub sum_of : {C V : Type 0} → C → (C → C → C) → (V → C) → List V → C
sum_of nothing plus held [] = nothing
sum_of nothing plus held (cell ∷ cells) = plus (held cell) (sum_of nothing plus held cells)
