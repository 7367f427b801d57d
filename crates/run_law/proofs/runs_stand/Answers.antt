-- What every run keeps.
use Rattle.run_law.proofs.runs_stand.Goals as goal
use Rattle.run_law.proofs.Chains.{books, tables, hand_plans}

pub returns : goal.returns
returns c = record { books = books; tables = tables; hand_plans = hand_plans }
