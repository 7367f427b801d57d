use Rattle.std.proofs.Common.{◌≡◌, ℕ, ◌+◌, ◌-◌, ◌≤◌, List, [], ◌∷◌, ◌++◌, length, fold, sym, ap, ◌∙◌, arith}
use Rattle.std.proofs.lemmas.List.{map-id}
use Rattle.std.proofs.lemmas.List.FromFn.{map-range_with_len_more}
use Rattle.std.proofs.lemmas.List.Sums.{fold_push}
use Rattle.std.specs.List.{range_with_len}
use Rattle.search_theory.specs.Costs.{kind_of}
use Rattle.every_plan.specs.Nets.{net_of}
use Rattle.every_plan.specs.Tallies.{limits, counted, at_limit}
use Rattle.every_plan.proofs.tallying.on_route.Goals as goal

-- the numbers from 1 on, up to one more
counting_more : (m : ℕ) → 1 ≤ m → range_with_len 1 (m + 1 - 1) ≡ range_with_len 1 (m - 1) ++ (m ∷ [])
counting_more m some =
    let back : m + 1 - 1 ≡ m - 1 + 1 = omega arith in
    ap (range_with_len 1) back
    ∙ (sym (map-id (range_with_len 1 (m - 1 + 1)))
    ∙ (map-range_with_len_more (λ (k : ℕ). k) 1 (m - 1) m (omega arith) ∙ ap (λ (ks : List ℕ). ks ++ (m ∷ [])) (map-id (range_with_len 1 (m - 1)))))

pub loop-figure-preserved : goal.loop-figure-preserved
loop-figure-preserved g c =
    let figure = c.loop-figure.figure in
    let step = λ (cells : ℕ). at_limit (kind_of g.P.Cost) cells (net_of c.args.case.now) in
    let cells = length c.args.cells.now in
    c.counted-tally.ensures
    ∙ (ap (counted c.loop-figure.tally) c.compared.ensures
    ∙ ((λ i. step (c.loop-figure.auto.cells i) (c.loop-figure.invariant i) figure)
    ∙ (sym (fold_push (step cells) c.args.before (range_with_len 1 (figure - 1)) figure) ∙ ap (fold (step cells) c.args.before) (sym (counting_more figure c.loop-figure.auto.figure)))))

pub returns : goal.returns
returns g c =
    let step = at_limit (kind_of g.P.Cost) (length c.args.cells.now) (net_of c.args.case.now) in
    let all : c.loop-figure.figure - 1 ≡ limits = omega arith in
    c.loop-figure.invariant ∙ ap (λ n. fold step c.args.before (range_with_len 1 n)) all
