-- The figures of one place, and its use after a taking or a giving back.
use Rattle.std.specs.Prelude.{ℕ, ◌+◌, ◌-◌, cond, Ok, Err, Result, nat_le}
use Rattle.stock.specs.Calls.{at_place}
use Rattle.stock.specs.Meaning.{Meaning, capacity, used}
use Rattle.stock.specs.declared.fault.StockFault.{StockFault}
use Rattle.stock.specs.declared.fault.StockFault.TheVariants.{Full, Lacking}
use Rattle.stock.specs.declared.figures.Figures.{Figures}

-- the figures of a place, where there is such a place
abbrev pub figures_answer : Meaning → ℕ → Result Figures StockFault
figures_answer m place = at_place m place (Ok (record { place = place; capacity = capacity m place; used = used m place }))

abbrev pub taken_use : Figures → ℕ → Result ℕ StockFault
taken_use f n = cond (nat_le (f.used + n) f.capacity) (Ok (f.used + n)) (Err (Full f.place))

abbrev pub given_use : Figures → ℕ → Result ℕ StockFault
given_use f n = cond (nat_le n f.used) (Ok (f.used - n)) (Err (Lacking f.place))
