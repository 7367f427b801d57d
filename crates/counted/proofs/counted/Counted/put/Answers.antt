use Rattle.std.proofs.Common.{refl}
use Rattle.counted.proofs.Tables.{table_after}
use Rattle.counted.proofs.counted.Counted.put.Goals as goal

pub returns-clause-after : goal.returns-clause-after
returns-clause-after c = table_after c.args.self.now.size.places c.args.self.now.table.now c.args.place _ c.index-self-place.result c.requires refl
