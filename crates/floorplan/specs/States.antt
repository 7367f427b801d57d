-- How a floorplan in a state, with the stocks and tables that it is lent, is a world of the law on runs.
use Rattle.std.specs.Prelude.{List, Ok, Err, Result}
use Rattle.stock.specs.Meaning.{Meaning}
use Rattle.floor_types.specs.declared.places.NetPlace.{NetPlace}
use Rattle.floor_types.specs.declared.places.RecordPlace.{RecordPlace}
use Rattle.runs.specs.Worlds.{Stage, World, being_entered, sealed}
use Rattle.floorplan.specs.declared.states.Entering.{Entering}
use Rattle.floorplan.specs.declared.states.Floorplan.{Floorplan}
use Rattle.floorplan.specs.declared.states.Sealed.{Sealed}

abbrev world_at : {S : Type 0} → Stage → Floorplan S → Meaning → Meaning → List NetPlace → List RecordPlace → World
world_at stage f sites wires nets records = record {
  grid = f.grid;
  places = f.places;
  entered = f.entered;
  stage = stage;
  sites = sites;
  wires = wires;
  nets = nets;
  records = records;
}

abbrev pub entering_world : Floorplan Entering → Meaning → Meaning → List NetPlace → List RecordPlace → World
entering_world f sites wires nets records = world_at being_entered f sites wires nets records

abbrev pub sealed_world : Floorplan Sealed → Meaning → Meaning → List NetPlace → List RecordPlace → World
sealed_world f sites wires nets records = world_at sealed f sites wires nets records

-- the answer of opening, with the world of the floorplan that it made
abbrev pub world_opened : {F : Type 0} → Result (Floorplan Entering) F → Meaning → Meaning → List NetPlace → List RecordPlace → Result World F
world_opened (Ok f) sites wires nets records = Ok (entering_world f sites wires nets records)
world_opened (Err f) sites wires nets records = Err f
