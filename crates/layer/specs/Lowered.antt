-- What a layer means: the uses of the stock below, and capacities of its own telling.
use Rattle.std.specs.Prelude.{ℕ, ◌+◌, Bool, cond, List, [], ◌∷◌, Err, Result, nat_le}
use Rattle.stock.specs.Calls.{at_place, exists, take_answer, take_after, take_refusal, place_refusal}
use Rattle.stock.specs.Meaning.{Meaning, used}
use Rattle.stock.specs.declared.fault.StockFault.{StockFault}
use Rattle.stock.specs.declared.fault.StockFault.TheVariants.{Full}

abbrev pub telling : List ℕ → Meaning → Meaning
telling capacities m = record { capacities = capacities; uses = m.uses }

-- taking n keeps the use within the capacity told
abbrev pub within : ℕ → Meaning → ℕ → ℕ → Bool
within capacity m place n = nat_le (used m place + n) capacity

-- taking below where the layer tells this capacity: its own test first, then the stock's
abbrev pub taken_answer : ℕ → Meaning → ℕ → ℕ → Result (Unit {0}) StockFault
taken_answer capacity m place n = at_place m place (cond (within capacity m place n) (take_answer m place n) (Err (Full place)))

abbrev pub taken_after : ℕ → Meaning → ℕ → ℕ → Meaning
taken_after capacity m place n = cond (exists m place) (cond (within capacity m place n) (take_after m place n) m) m

abbrev pub taken_refusal : ℕ → Meaning → ℕ → ℕ → List ℕ
taken_refusal capacity m place n = place_refusal m place (cond (within capacity m place n) (take_refusal m place n) (32 ∷ place ∷ []))
