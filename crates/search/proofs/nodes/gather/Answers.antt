-- One child more of the family is one row more in the table.
use Rattle.std.proofs.Common.{◌≡◌, ◌+◌, ◌*◌, ◌<◌, ◌≤◌, map, length, get_or, None, sym, ap, ◌∙◌, subst, arith}
use Rattle.std.proofs.lemmas.List.{get_or-take}
use Rattle.length_rule.specs.Costs.{kth_price}
use Rattle.search_cells.specs.Cells.{rows_of}
use Rattle.search_cells.specs.Lists.{last_first}
use Rattle.search_cells.proofs.Gathering.{gathered_room, gathered_more}
use Rattle.search_theory.specs.Costs.{kind_of}
use Rattle.search_theory.specs.Joining.{table}
use Rattle.search.proofs.nodes.gather.Goals as goal

pub nth_row-requires : goal.nth_row-requires
nth_row-requires g c =
    let k = c.loop-k.k-index in
    let family = c.args.family.now in
    let all : k < family.count = omega (arith, c.as_slice-k-items.ensures.counted) in
    let is : get_or c.as_slice-k-items.result.now k 0 ≡ get_or family.items k 0 = ap (λ ks. get_or ks k 0) c.as_slice-k-items.ensures.kept ∙ get_or-take family.count family.items k 0 all in
    subst (λ i. (i + 1) * (c.args.limit.value + 1) ≤ length c.args.rows.now) (sym is) (c.requires.inside k all)

pub merge-requires : goal.merge-requires
merge-requires g c =
    let m = g.P.Cost in
    let limit = c.args.limit.value in
    let k = c.loop-k.k-index in
    let few : k < 4 = omega (arith, c.as_slice-k-items.ensures.counted) in
    record {
      own = omega arith;
      other = c.nth_row.ensures.wide;
      room = λ h j a b. gathered_room (kind_of m) m.held limit (kth_price m.nothing m.plus c.args.price) c.args.rows.now c.args.family.now.items
          (get_or c.loop-k.table (h * (limit + 1) + j) None) k h j (c.loop-k.invariant h j a b) few;
    }

pub loop-k-preserved : goal.loop-k-preserved
loop-k-preserved g c =
    let m = g.P.Cost in
    let limit = c.args.limit.value in
    let family = c.args.family.now in
    let k = c.loop-k.k-index in
    let all : k < family.count = omega (arith, c.as_slice-k-items.ensures.counted) in
    let is : get_or c.as_slice-k-items.result.now k 0 ≡ get_or family.items k 0 = ap (λ ks. get_or ks k 0) c.as_slice-k-items.ensures.kept ∙ get_or-take family.count family.items k 0 all in
    gathered_more (kind_of m) m.held limit (kth_price m.nothing m.plus c.args.price) c.args.rows.now family.items c.loop-k.table c.merge.new.table c.nth_row.result.now k
    (λ e l. c.nth_row.ensures.cells e l ∙ ap (λ i. get_or c.args.rows.now (i * (limit + 1) + e) None) is) c.loop-k.invariant c.merge.ensures

pub returns : goal.returns
returns g c =
    let m = g.P.Cost in
    let limit = c.args.limit.value in
    let all : c.loop-k.k-index ≡ c.args.family.now.count = omega (arith, c.as_slice-k-items.ensures.counted) in
    λ h j a b. c.loop-k.invariant h j a b
    ∙ ap (λ n. table (kind_of m) limit (kth_price m.nothing m.plus c.args.price) (map (rows_of m.held c.args.rows.now (limit + 1)) (last_first (λ k. k) 0 c.args.family.now.items n)) h j) all
