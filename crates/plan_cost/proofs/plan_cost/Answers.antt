use Rattle.std.proofs.Common.{◌≡◌, ◌<◌, length, Some, None, Option, sym, refl, ap, ◌∙◌, add-one, arith}
use Rattle.std.specs.Option.{option_flatten, unwrap_or}
use Rattle.std.proofs.lemmas.List.{get_or-take, length-take}
use Rattle.net.specs.Checked.{records_of}
use Rattle.length_rule.specs.Costs.{price_at, tile_cost, cost_below}
use Rattle.length_rule.specs.Gates.{need}
use Rattle.plan.proofs.Tallying.{need_told}
use Rattle.plan_cost.proofs.plan_cost.Goals as wants

flat : {A : Type 0} (o : Option (Option A)) → option_flatten o ≡ unwrap_or o None
flat None = refl
flat (Some a) = refl

pub loop-index-preserved : wants.loop-index-preserved
loop-index-preserved g c =
    let m = g.P.Cost in
    let r = c.args.route.now in
    let rs = records_of r in
    let i = c.loop-index.index in
    let here : i < length rs = omega (arith, c.loop-index-test.true, ap length c.records.ensures, length-take (length c.records.result.now) c.needs-needed.result) in
    let told : c.flatten-price.result ≡ price_at c.args.prices.now i = c.flatten-price.ensures ∙ (flat c.copied.result ∙ (ap (λ (o : Option _). unwrap_or o None) c.copied.ensures ∙ c.get.ensures.lookup.4 (omega arith) None)) in
    let read = c.from.ensures in
    let within = get_or-take (length c.records.result.now) c.needs-needed.result i 0 (omega (arith, here, ap length c.records.ensures)) in
    let told_need = need_told r c.args.marks.now c.needs-needed.result i here c.needs-needed.ensures.answer in
    let sites : c.from.result ≡ need rs c.args.marks.now i = cc in
    c.plus-sum.ensures
    ∙ ((λ k. m.plus ((c.tile_cost.ensures ∙ (λ j. tile_cost m.nothing m.plus (told j) (sites j))) k) (c.loop-index.invariant k))
    ∙ ap (cost_below m.nothing m.plus rs c.args.prices.now c.args.marks.now) (sym (add-one i)))
