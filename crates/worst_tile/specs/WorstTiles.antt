-- A worst tile is a number up to the ceiling.
use Rattle.std.specs.Prelude.{refl, ℕ}
use Rattle.laws.specs.Amounts.{NumbersTo, amount}
use Rattle.worst_tile.specs.Price.{worst_tile_ceiling}
use Rattle.worst_tile.specs.declared.amount.WorstTile.{WorstTile}

abbrev pub worst_tiles : NumbersTo worst_tile_ceiling WorstTile
worst_tiles = record {
  make = λ n h. record { value = n; ok = h };
  value = λ x. x.value;
  small = λ x. x.ok;
  made = λ n h. refl;
  whole = λ x. refl;
}

-- the worst tile n, or the ceiling where n passes it
abbrev pub worst_tile : ℕ → WorstTile
worst_tile n = amount worst_tiles n
