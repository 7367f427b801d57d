use Rattle.std.proofs.Common.{◌≡◌}
use Rattle.search_speed.specs.Tree.{grown}
use Rattle.search_speed.proofs.Growing.{Grows}
use Rattle.search_speed.proofs.tree.tree.Given as goal

abbrev pub invariant-loop-throw : goal.invariant-loop-throw
invariant-loop-throw l = (l.dice ≡ (grown l.grid l._throw).dice) × Grows (grown l.grid l._throw).records (grown l.grid l._throw).count l.records.items
