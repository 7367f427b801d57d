-- Each relation decides its answer.
use Rattle.runs.proofs.answers_decided.Goals as goal
use Rattle.runs.proofs.Decided.{planning_one, answers_decided}

pub returns : goal.returns
returns c = record { planning = planning_one; others = answers_decided }
