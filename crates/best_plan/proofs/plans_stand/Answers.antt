-- The laws of the kind are what the theorem asks for; that the choice rests on nothing else asks for none.
use Rattle.best_plan.proofs.Alone.{chosen_alone}
use Rattle.best_plan.proofs.Legals.{chosen_best}
use Rattle.best_plan.proofs.plans_stand.Goals as goal

pub returns : goal.returns
returns g c = record {
  alone = λ limit rs spare spare' prices prices' tree alike. chosen_alone _ limit rs spare spare' prices prices' tree alike;
  best = chosen_best g.met.C.Cost.lawful;
}
