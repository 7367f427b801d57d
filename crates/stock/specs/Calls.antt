-- What each call of a stock answers and leaves, by the meaning before it.
use Rattle.std.specs.Prelude.{ℕ, ◌+◌, ◌-◌, Bool, cond, List, [], ◌∷◌, Ok, Err, Result, nat_le, nat_lt, slice_set}
use Rattle.stock.specs.declared.fault.StockFault.{StockFault}
use Rattle.stock.specs.declared.fault.StockFault.TheVariants.{NoPlace, Full, Lacking}
use Rattle.stock.specs.Meaning.{Meaning, count, capacity, spare, used}

abbrev pub exists : Meaning → ℕ → Bool
exists m place = nat_lt place (count m)

-- taking n keeps the use within the capacity
abbrev pub fits : Meaning → ℕ → ℕ → Bool
fits m place n = nat_le (used m place + n) (capacity m place)

-- n is in use
abbrev pub covers : Meaning → ℕ → ℕ → Bool
covers m place n = nat_le n (used m place)

-- a place that does not exist is refused before anything else
abbrev pub at_place : {A : Type 0} → Meaning → ℕ → Result A StockFault → Result A StockFault
at_place m place answer = cond (exists m place) answer (Err (NoPlace place))

abbrev pub capacity_answer : Meaning → ℕ → Result ℕ StockFault
capacity_answer m place = at_place m place (Ok (capacity m place))

abbrev pub used_answer : Meaning → ℕ → Result ℕ StockFault
used_answer m place = at_place m place (Ok (used m place))

abbrev pub spare_answer : Meaning → ℕ → Result ℕ StockFault
spare_answer m place = at_place m place (Ok (spare m place))

abbrev pub take_answer : Meaning → ℕ → ℕ → Result (Unit {0}) StockFault
take_answer m place n = at_place m place (cond (fits m place n) (Ok tt) (Err (Full place)))

abbrev pub give_answer : Meaning → ℕ → ℕ → Result (Unit {0}) StockFault
give_answer m place n = at_place m place (cond (covers m place n) (Ok tt) (Err (Lacking place)))

-- the same meaning with another use at one place
abbrev pub with_use : Meaning → ℕ → ℕ → Meaning
with_use m place u = record { capacities = m.capacities; uses = slice_set m.uses place u }

-- a refused call leaves the meaning as it was
abbrev pub take_after : Meaning → ℕ → ℕ → Meaning
take_after m place n = cond (exists m place) (cond (fits m place n) (with_use m place (used m place + n)) m) m

abbrev pub give_after : Meaning → ℕ → ℕ → Meaning
give_after m place n = cond (exists m place) (cond (covers m place n) (with_use m place (used m place - n)) m) m

-- The same refusals by their numbers, in the order in which they are tested; nothing where the call is accepted.
abbrev pub place_refusal : Meaning → ℕ → List ℕ → List ℕ
place_refusal m place later = cond (exists m place) later (31 ∷ place ∷ [])

abbrev pub question_refusal : Meaning → ℕ → List ℕ
question_refusal m place = place_refusal m place []

abbrev pub take_refusal : Meaning → ℕ → ℕ → List ℕ
take_refusal m place n = place_refusal m place (cond (fits m place n) [] (32 ∷ place ∷ []))

abbrev pub give_refusal : Meaning → ℕ → ℕ → List ℕ
give_refusal m place n = place_refusal m place (cond (covers m place n) [] (33 ∷ place ∷ []))
