-- No capacity where a place is closed.
use Rattle.std.specs.Prelude.{ℕ, Bool, cond, List, [], ◌∷◌, Ok, Result, slice_set}
use Rattle.stock.specs.Calls.{at_place, exists}
use Rattle.stock.specs.Meaning.{Meaning}
use Rattle.stock.specs.declared.fault.StockFault.{StockFault}
use Rattle.layer.specs.Lowered.{telling}

-- 0 where the mark says closed
abbrev pub open_capacities : List Bool → List ℕ → List ℕ
open_capacities [] capacities = capacities
open_capacities (closed ∷ marks) [] = []
open_capacities (closed ∷ marks) (c ∷ capacities) = cond closed 0 c ∷ open_capacities marks capacities

abbrev pub closing : List Bool → Meaning → Meaning
closing marks m = telling (open_capacities marks m.capacities) m

-- closing or opening a place: refused exactly when the stock below has no such place
abbrev pub mark_answer : Meaning → ℕ → Result (Unit {0}) StockFault
mark_answer below place = at_place below place (Ok tt)

abbrev pub mark_after : Meaning → List Bool → ℕ → Bool → List Bool
mark_after below marks place closed = cond (exists below place) (slice_set marks place closed) marks
