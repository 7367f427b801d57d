use Rattle.std.proofs.Common.{None}
use Rattle.std.proofs.lemmas.List.{get_or_read}
use Rattle.search.proofs.finish.fn.level.cell_at.Goals as goal

pub returns : goal.returns
returns g c = get_or_read c.captures.row.now c.args.j c.index-row-j.result c.requires c.index-row-j.is None
