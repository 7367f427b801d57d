-- What two layers on a stock mean together.
use Rattle.std.specs.Prelude.{ℕ, cond, replicate, Err, Result, nat_le}
use Rattle.closure.specs.Closed.{closing}
use Rattle.open_stock.specs.Wide.{wide}
use Rattle.reserve.specs.Reserved.{reserved}
use Rattle.stock.specs.Calls.{spare_answer}
use Rattle.stock.specs.Meaning.{Meaning, most_places}
use Rattle.stock.specs.declared.fault.StockFault.{StockFault}
use Rattle.stock.specs.declared.fault.StockFault.TheVariants.{TooLarge}
use Rattle.stacks.specs.Filling.{filled}
use Rattle.stacks.specs.Under.{one_closed, under}

-- a closure with one place closed
abbrev pub closed_over : ℕ → Meaning → Meaning
closed_over closed below = closing (one_closed below closed) below

abbrev pub closure_on_reserve : ℕ → ℕ → Meaning → Meaning
closure_on_reserve percent closed below = closed_over closed (reserved percent below)

abbrev pub reserve_on_closure : ℕ → ℕ → Meaning → Meaning
reserve_on_closure percent closed below = reserved percent (closed_over closed below)

-- what a stock means after all that is spare at a place under a layer was taken there
abbrev pub drained : (Meaning → Meaning) → Meaning → ℕ → Meaning
drained layer below place = under below (filled (layer below) place)

-- an open stock as it is made
unfoldable pub wide_open : ℕ → Meaning
wide_open places = wide places (replicate most_places 0)

-- what is spare at a place of an open stock under both layers, where such a stock can be made
abbrev pub open_answer : ℕ → ℕ → ℕ → ℕ → Result ℕ StockFault
open_answer places percent closed place = cond (nat_le places most_places) (spare_answer (reserve_on_closure percent closed (wide_open places)) place) (Err (TooLarge places))
