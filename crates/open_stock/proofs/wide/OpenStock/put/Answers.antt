use Rattle.open_stock.proofs.Wides.{wide_after}
use Rattle.open_stock.proofs.wide.OpenStock.put.Goals as goal

pub returns-clause-after : goal.returns-clause-after
returns-clause-after c = wide_after c.args.self.now.size.places c.args.self.now.uses c.args.place c.args.used c.requires
