-- What a counted stock means: its table's first places.
use Rattle.std.specs.Prelude.{List, take}
use Rattle.stock.specs.Meaning.{Meaning}
use Rattle.counted.specs.declared.counted.Counted.{Counted}
use Rattle.counted.specs.declared.place.Place.{Place}
use Rattle.counted.specs.Table.{of_table, rest}

abbrev pub means : Counted → Meaning
means s = of_table s.size.places s.table.now

-- the places of its table that it stands on
abbrev pub stands_on : Counted → List Place
stands_on s = take s.size.places s.table.now

-- the places of its table that it leaves alone
abbrev pub leaves : Counted → List Place
leaves s = rest s.size.places s.table.now
