use Rattle.std.proofs.Common.{map, fold, ap, ◌∙◌, rules}
use Rattle.std.proofs.lemmas.Iterator.{YieldsList-from_slice, YieldsList-from_map}
use Rattle.std.proofs.lemmas.Iterator.Consumers.{fold_from_yields_List}
use Rattle.any_kind.proofs.Sums.{bill_from_nothing}
use Rattle.any_kind.proofs.work.bill.Goals as goal

pub returns : goal.returns
returns g c =
    let m = g.P.Cost in
    let cells = c.args.cells.now in
    fold_from_yields_List _ m.plus c.nothing.result c.fold.result c.fold.ensures.ran
    (YieldsList-from_map _ m.held (YieldsList-from_slice cells cc) c.map.ensures.closure (λ x r q k. search rules))
    (λ a x b q k. search rules)
    ∙ (ap (λ a. fold m.plus a (map m.held cells)) c.nothing.ensures ∙ bill_from_nothing g.met.P.Cost.lawful m.held cells)
