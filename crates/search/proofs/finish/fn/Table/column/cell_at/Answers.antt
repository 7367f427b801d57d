use Rattle.std.proofs.Common.{◌+◌, ◌<◌, length, None, ◌∙◌, arith}
use Rattle.std.proofs.lemmas.List.{get_or_read}
use Rattle.search_cells.proofs.Parts.{rows_apart}
use Rattle.search.proofs.finish.fn.Table.column.cell_at.Goals as goal

pub row-requires : goal.row-requires
row-requires g c = omega (arith, rows_apart c.args.h 5 (c.captures.self.now.limit.value + 1) c.requires.below)

pub returns : goal.returns
returns g c =
    let row = c.row.result.now in
    let within : c.captures.e < length row = omega arith in
    get_or_read row c.captures.e c.index-row-e.result within c.index-row-e.is None ∙ c.row.ensures.cells c.captures.e c.requires.reach
