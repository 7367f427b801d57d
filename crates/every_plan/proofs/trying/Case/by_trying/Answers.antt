use Rattle.std.proofs.Common.{◌≡◌, ◌-◌, List, length, ap, ◌∙◌, arith, rules}
use Rattle.std.proofs.lemmas.Iterator.{YieldsList-from_range}
use Rattle.std.proofs.lemmas.Iterator.Consumers.{YieldsList-from_filter_map}
use Rattle.net.specs.declared.records.record.Record.{Record}
use Rattle.every_plan.specs.Codes.{plans}
use Rattle.every_plan.specs.Trying.{lower}
use Rattle.every_plan.proofs.Reduced.{reduced}
use Rattle.every_plan.proofs.trying.Case.by_trying.Goals as goal

pub returns : goal.returns
returns g c =
    let all : c.plans.result - 0 ≡ c.plans.result = omega arith in
    reduced _ (lower g.P.Cost.at_most) _ (λ a x b q k. search rules) _ c.filter_map.result _ c.reduce.result c.reduce.ensures.ran
    (YieldsList-from_filter_map _ _
    (YieldsList-from_range 0 _ _ c.filter_map.ensures.source (all ∙ (c.plans.ensures ∙ ap (λ (rs : List Record). plans (length rs)) c.records.ensures)))
    c.filter_map.ensures.closure (λ x r q k. search rules))
