use Rattle.std.proofs.Common.{◌≡◌}
use Rattle.counted.specs.Table.{cleared}
use Rattle.counted.proofs.counted.clear.Given as goal

abbrev pub invariant-loop-place : goal.invariant-loop-place
invariant-loop-place l = l.places ≡ cleared l.place-index l.initial.places
