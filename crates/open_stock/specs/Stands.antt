-- What an open stock means.
use Rattle.stock.specs.Meaning.{Meaning}
use Rattle.open_stock.specs.declared.wide.OpenStock.{OpenStock}
use Rattle.open_stock.specs.Wide.{wide}

abbrev pub means : OpenStock → Meaning
means s = wide s.size.places s.uses
