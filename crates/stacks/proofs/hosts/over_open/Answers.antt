use Rattle.std.proofs.Common.{◌≤◌, cond, Err, sym, ap, ◌∙◌, arith}
use Rattle.open_stock.specs.Wide.{wide}
use Rattle.std.proofs.lemmas.Bool.{le-leb}
use Rattle.stock.specs.Calls.{spare_answer}
use Rattle.stock.specs.Meaning.{Meaning}
use Rattle.stock.specs.declared.fault.StockFault.TheVariants.{TooLarge}
use Rattle.stacks.specs.Stacked.{reserve_on_closure, wide_open}
use Rattle.stacks.proofs.hosts.over_open.Goals as goal

pub returns : goal.returns
unfolding wide_open
returns c =
    let made = c.in_ok-open.ensures.answer in
    let answer = λ (m : Meaning). spare_answer (reserve_on_closure c.args.layers.percent.value c.args.layers.closed m) c.args.place in
    let few : c.args.places ≤ 8192 = omega (arith, c.in_ok-open.open.size.few) in
    c.reserve_over_closure.ensures.answer
    ∙ ap (λ n. answer (wide n c.in_ok-open.open.uses)) made.0
    ∙ ap (λ t. answer (wide c.args.places t)) made.1
    ∙ sym (ap (λ b. cond b (answer (wide_open c.args.places)) (Err (TooLarge c.args.places))) (le-leb c.args.places 8192 few))
