-- Two values in an order of rank: the first decides, then the second, and firsts at the ceiling tie.
use Rattle.std.specs.Prelude.{Bool, true, false, cond}

-- `forth` and `back` say that each first is at most the other, `full` that the first is at the ceiling, and `rest` that
-- the second of the one is at most that of the other. Where the other first is not at most the one, the one is lower.
abbrev pub ranks : Bool → Bool → Bool → Bool → Bool
ranks forth back full rest = cond back (cond forth (cond full true rest) false) true

-- x with a is at most y with b
abbrev pub ranked : {X Y : Type 0} → (X → X → Bool) → X → (Y → Y → Bool) → X → Y → X → Y → Bool
ranked first_at_most ceiling second_at_most x a y b =
    ranks (first_at_most x y) (first_at_most y x) (first_at_most ceiling x) (second_at_most a b)
