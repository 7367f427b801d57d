-- The refusals leave exactly what may be accepted.
use Rattle.runs.proofs.refusals_exact.Goals as goal
use Rattle.runs.proofs.Accepted.{tables_exact, refusals_exact}

pub returns : goal.returns
returns c = record { tables = tables_exact; calls = refusals_exact }
