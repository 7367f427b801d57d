-- A pair of costs: its sum part by part, and its comparison, in which the first decides, then the second, and two whose
-- firsts are at the ceiling tie. S and V are the types of the two parts in a work cell.
use Rattle.std.specs.Prelude.{Bool}
use Rattle.laws.specs.Ranked.{ranked}
use Rattle.cost.specs.declared.pair.Pair.{Pair}

module _ {X Y S V : Type 0} where
  abbrev pub pair : X → Y → Pair X Y S V
  pair x y = record { first = x; second = y }

  abbrev pub pair_plus : (X → X → X) → (Y → Y → Y) → Pair X Y S V → Pair X Y S V → Pair X Y S V
  pair_plus first_plus second_plus p q = pair (first_plus p.first q.first) (second_plus p.second q.second)

  abbrev pub pair_at_most : (X → X → Bool) → X → (Y → Y → Bool) → Pair X Y S V → Pair X Y S V → Bool
  pair_at_most first_at_most ceiling second_at_most p q =
      ranked first_at_most ceiling second_at_most p.first p.second q.first q.second
