-- A tile's number and its place tell the same.
use Rattle.std.proofs.Common.{◌*◌, ◌/◌, ◌%◌, ◌<◌, ltb, arith}
use Rattle.std.proofs.lemmas.Nat.{mul-add-lt, div-mul-add, mod-mul-add, div_below, mod_below, div-add-mod'}
use Rattle.std.proofs.lemmas.Bool.{and_parts, and_from, ltb-true, lt-ltb}
use Rattle.grid.specs.declared.shape.Grid.{Grid}
use Rattle.grid.specs.Tiles.{number, NumberTellsPlace, PlaceTellsNumber}

pub number_tells_place : (g : Grid) → NumberTellsPlace g
number_tells_place g p h =
    let both = and_parts (ltb p.0 g.rows) (ltb p.1 g.columns) h in
    let row : p.0 < g.rows = ltb-true p.0 g.rows both.0 in
    let column : p.1 < g.columns = ltb-true p.1 g.columns both.1 in (
      lt-ltb (number g p) (g.rows * g.columns) (omega (arith, mul-add-lt p.0 g.columns p.1 g.rows row column)),
      λ i. (div-mul-add p.0 g.columns p.1 column i, mod-mul-add p.0 g.columns p.1 column i),
    )

pub place_tells_number : (g : Grid) → PlaceTellsNumber g
place_tells_number g t h =
    let below : t < g.rows * g.columns = ltb-true t (g.rows * g.columns) h in (
      and_from
          (ltb (t / g.columns) g.rows)
          (ltb (t % g.columns) g.columns)
          (lt-ltb (t / g.columns) g.rows (div_below t g.columns g.rows g.some_columns below))
          (lt-ltb (t % g.columns) g.columns (mod_below t g.columns g.some_columns)),
      div-add-mod' t g.columns,
    )
