use Rattle.std.proofs.Common.{refl}
use Rattle.worked.proofs.Shown.{shown}
use Rattle.worked.proofs.worked_examples.Goals as goal

pub returns : goal.returns
returns c = record { hold = shown; count = refl }
