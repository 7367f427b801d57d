use Rattle.std.proofs.Common.{◌≡◌, None}
use Rattle.net.specs.Lowest.{lowest}
use Rattle.net.specs.Routes.{end_fault}
use Rattle.net.proofs.records.scan.check_ends.Given as goal

abbrev pub invariant-loop-i : goal.invariant-loop-i
invariant-loop-i l = lowest (end_fault l.records) l.i ≡ None
