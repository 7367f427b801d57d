-- Sealing is a step of every run that led to the floorplan.
use Rattle.std.proofs.Common.{refl}
use Rattle.runs.specs.Runs.{sealing}
use Rattle.floorplan.proofs.states.sealing.Floorplan+Entering.seal.Goals as goal

pub returns-clause-goes_on : goal.returns-clause-goes_on
returns-clause-goes_on c = λ sites wires nets records h run. sealing _ _ h run refl refl
