-- What a table of places means as a stock.
use Rattle.std.specs.Prelude.{ℕ, List, ◌++◌, map, take, drop}
use Rattle.std.proofs.Common.{zero-le}
use Rattle.stock.specs.Meaning.{Meaning}
use Rattle.counted.specs.declared.place.Place.{Place}

abbrev pub of_places : List Place → Meaning
of_places places = record { capacities = map (λ p. p.capacity) places; uses = map (λ p. p.used) places }

-- a stock of a size stands on the first places of its table, on all of them where it has fewer
abbrev pub of_table : ℕ → List Place → Meaning
of_table size table = of_places (take size table)

-- the places that a stock of a size leaves alone
abbrev pub rest : ℕ → List Place → List Place
rest size table = drop size table

abbrev pub unused : Place → Place
unused p = record { capacity = p.capacity; used = 0; fits = (p.fits.0, zero-le) }

-- the table with nothing in use at its first places
abbrev pub cleared : ℕ → List Place → List Place
cleared size table = map unused (take size table) ++ rest size table
