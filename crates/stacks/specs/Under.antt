-- What a layer leaves of the stock below it.
use Rattle.std.specs.Prelude.{ℕ, Bool, true, false, List, replicate}
use Rattle.closure.specs.Closed.{mark_after}
use Rattle.layer.specs.Lowered.{telling}
use Rattle.stock.specs.Meaning.{Meaning, most_places}

-- the capacities of the stock below, and the uses that the layer ended with
abbrev pub under : Meaning → Meaning → Meaning
under below layer = telling below.capacities layer

-- the marks of a closure over a stock after one place was closed, or none where there is no such place
unfoldable pub one_closed : Meaning → ℕ → List Bool
one_closed below place = mark_after below (replicate most_places false) place true
