-- The runs of a small floorplan.
use Rattle.runs.proofs.runs_exist.Goals as goal
use Rattle.runs.proofs.Sample.{runs_exist}

pub returns : goal.returns
returns c = runs_exist
