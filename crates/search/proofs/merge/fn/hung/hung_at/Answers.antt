use Rattle.std.proofs.Common.{◌≡◌, suc, ◌-◌, ◌<◌, false, length, get_or, None, sym, ap, ◌∙◌, subst, arith}
use Rattle.std.proofs.lemmas.List.{get_or_read}
use Rattle.search_cells.specs.Cells.{as_joined, as_chosen, as_reached, line_in, HasRoom}
use Rattle.search_theory.specs.Costs.{kind_of}
use Rattle.search_theory.specs.Joining.{tagged, join}
use Rattle.search.proofs.merge.fn.hung.hung_at.Goals as goal

pub join-requires : goal.join-requires
join-requires g c =
    let xs = c.captures.own.now in
    let i = c.captures.j - 1 - c.args.e in
    let within : i < length xs = omega arith in
    subst HasRoom (sym (get_or_read xs i c.index-own-j.result within c.index-own-j.is None)) c.requires.room

pub returns : goal.returns
returns g c =
    let m = g.P.Cost in
    let o = kind_of m in
    let xs = c.captures.own.now in
    let ys = c.captures.child.now in
    let e = c.args.e in
    let i = c.captures.j - 1 - e in
    let within : i < length xs = omega arith in
    let beside : e < length ys = omega arith in
    let back : i ≡ c.captures.j - suc e = omega arith in
    c.join.ensures
    ∙ ap (λ t. join o false t (as_reached m.held c.tagged.result)) (ap (as_joined m.held) (get_or_read xs i c.index-own-j.result within c.index-own-j.is None ∙ ap (λ n. get_or xs n None) back))
    ∙ ap (join o false (line_in m.held xs (c.captures.j - suc e))) (c.tagged.ensures ∙ ap (λ x. tagged e (as_chosen m.held x)) (get_or_read ys e c.index-child-e.result beside c.index-child-e.is None))
