-- What a checked route holds, and what the check answers.
use Rattle.std.specs.Prelude.{List, take, Some, None, Ok, Err, Option, Result}
use Rattle.grid.specs.declared.shape.Grid.{Grid}
use Rattle.net.specs.declared.records.Route.{Route}
use Rattle.net.specs.declared.records.record.Record.{Record}
use Rattle.net.specs.declared.records.record.RouteFault.{RouteFault}
use Rattle.net.specs.Routes.{route_fault}

-- the records of a route: the first of its places
abbrev pub records_of : Route → List Record
records_of r = take r.count r.records

-- the grid and the records of the route that is made, or what is wrong: a route is nothing but these
abbrev pub parts_of : Result Route RouteFault → Result (Grid × List Record) RouteFault
parts_of (Ok r) = Ok (r.grid, records_of r)
parts_of (Err f) = Err f

abbrev pub refused_or : {A F : Type 0} → A → Option F → Result A F
refused_or a None = Ok a
refused_or a (Some f) = Err f

abbrev pub route_checked : Grid → List Record → Result (Grid × List Record) RouteFault
route_checked g rs = refused_or (g, rs) (route_fault g rs)
