-- Taking all that is spare at a place.
use Rattle.std.specs.Prelude.{ℕ, ◌+◌, cond}
use Rattle.stock.specs.Calls.{exists, with_use}
use Rattle.stock.specs.Meaning.{Meaning, spare, used}

abbrev pub filled : Meaning → ℕ → Meaning
filled m place = cond (exists m place) (with_use m place (used m place + spare m place)) m
