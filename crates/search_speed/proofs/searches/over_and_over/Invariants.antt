use Rattle.std.proofs.Common.{◌≡◌}
use Rattle.search_speed.proofs.searches.over_and_over.Given as goal

abbrev pub invariant-loop : goal.invariant-loop
invariant-loop l = (l.answer ≡ l.initial.answer) × (l.marks ≡ l.initial.marks)
