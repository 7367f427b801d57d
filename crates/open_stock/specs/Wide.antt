-- A stock with the largest capacity everywhere.
use Rattle.std.specs.Prelude.{ℕ, List, take, replicate}
use Rattle.stock.specs.Meaning.{Meaning, most}

-- the uses of the first places of a table
abbrev pub wide : ℕ → List ℕ → Meaning
wide places table = record { capacities = replicate places most; uses = take places table }
