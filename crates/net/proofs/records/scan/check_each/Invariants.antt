use Rattle.std.proofs.Common.{◌≡◌, None}
use Rattle.net.specs.Lowest.{lowest}
use Rattle.net.specs.Marks.{TilesMarked}
use Rattle.net.specs.Routes.{record_fault}
use Rattle.net.proofs.records.scan.check_each.Given as goal

abbrev pub invariant-loop-i : goal.invariant-loop-i
invariant-loop-i l = TilesMarked l.records l.i l.seen × (lowest (record_fault l.grid l.records) l.i ≡ None)
