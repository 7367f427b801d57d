-- What is searched for: a plan by count and then congestion, in the crowd.
use Rattle.std.specs.Prelude.{ℕ, List, Option}
use Rattle.laws.specs.Amounts.{amount_at_most, capped_sum}
use Rattle.cost.specs.Pairs.{pair, pair_plus, pair_at_most}
use Rattle.count.specs.Counts.{count, counts}
use Rattle.count.specs.Price.{count_ceiling}
use Rattle.congestion.specs.Congestions.{congestion, congestions}
use Rattle.net.specs.declared.records.record.Record.{Record}
use Rattle.search_theory.specs.Costs.{Kind}
use Rattle.search_theory.specs.Entries.{Priced}
use Rattle.best_plan.specs.Chosen.{chosen}
use Rattle.search_speed.specs.Tables.{table}
use Rattle.search_speed.specs.Crowd.{Costs, crowd_spare, crowd_price}

-- the kind of cost: fewer buffers first, then less congestion
abbrev pub count_then_congestion : Kind Costs
count_then_congestion = record {
  nothing = pair (count 0) (congestion 0);
  plus = pair_plus (capped_sum counts) (capped_sum congestions);
  at_most = pair_at_most (amount_at_most counts) (count count_ceiling) (amount_at_most congestions);
}

-- the plan that the search chooses for these records in the crowd
abbrev pub plan_in_crowd : ℕ → List Record → Option (Priced Costs (List ℕ))
plan_in_crowd limit rs = chosen count_then_congestion limit rs (table crowd_spare) (table crowd_price)
