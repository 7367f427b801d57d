-- Each index is linked to its parent, whose children so far are its siblings before it.
use Rattle.std.proofs.Common.{◌≡◌, ℕ, ◌+◌, ◌<◌, ◌≤◌, [], ◌∷◌, ◌++◌, length, get_or, set, ap, subst, sym, ◌∙◌, arith, length-set}
use Rattle.std.proofs.lemmas.List.{length_push}
use Rattle.net.specs.Checked.{records_of}
use Rattle.net.specs.Routes.{parent_of}
use Rattle.search_cells.specs.Families.{no_family, members_at, children_before, rank_of}
use Rattle.search_cells.proofs.Inplace.{first_only, set_more}
use Rattle.search_cells.proofs.Kinship.{rank_is, few_siblings, linked_more}
use Rattle.search_cells.proofs.Pushing.{pushed}
use Rattle.search_cells.proofs.Narrow.{searchable}
use Rattle.search.proofs.Nets.{few, parent_small}
use Rattle.search.proofs.Turns.{next_turn, last_turn}
use Rattle.search.proofs.families.link.Goals as goal

pub loop-k-init : goal.loop-k-init
loop-k-init c = (c.requires.wide, c.requires.long, c.requires.fresh, first_only (λ j. get_or c.args.ranks.now j 0 ≡ rank_of (records_of c.args.route.now) j) c.requires.first)

pub bounds-families-parent : goal.bounds-families-parent
bounds-families-parent c =
    let rs = records_of c.args.route.now in
    omega (arith, c.loop-k.invariant.0, parent_small c.args.route.now _ _ _ (next_turn rs _ (cc) (cc) (cc) c.loop-k.yielded _ c.loop-k.yielded_by _ _ c.in-Some.k c.in-Some.record c.in-Some.is c.next.ensures.steps))

pub slice_copy_out-family : goal.slice_copy_out-family
slice_copy_out-family c =
    let rs = records_of c.args.route.now in
    omega (arith, c.loop-k.invariant.0, parent_small c.args.route.now _ _ _ (next_turn rs _ (cc) (cc) (cc) c.loop-k.yielded _ c.loop-k.yielded_by _ _ c.in-Some.k c.in-Some.record c.in-Some.is c.next.ensures.steps))

pub loop-k-preserved : goal.loop-k-preserved
loop-k-preserved c =
    let route = c.args.route.now in
    let rs = records_of route in
    let fs = c.loop-k.families in
    let k = c.in-Some.k in
    let t = next_turn rs _ (cc) (cc) (cc) c.loop-k.yielded _ c.loop-k.yielded_by _ _ c.in-Some.k c.in-Some.record c.in-Some.is c.next.ensures.steps in
    let pos : 0 < k = omega (arith, t.0) in
    let parent : c.in-Some.record.now.parent ≡ parent_of rs k = ap (λ r. r.parent) t.2 in
    let so_far : (i : ℕ) → i < length rs → members_at fs i ≡ children_before rs k i = λ i l. c.loop-k.invariant.2 i l ∙ ap (λ n. children_before rs n i) (sym t.0) in
    let before : parent_of rs k < k = (searchable route).earlier k pos t.1 in
    let few_linked : (get_or fs c.in-Some.record.now.parent no_family).count < 4 = subst (λ p. (get_or fs p no_family).count < 4) (sym parent) (few_siblings rs (searchable route) fs k pos t.1 so_far) in
    let most : length rs ≤ 256 = few route in
    let count : length (c.loop-k.yielded ++ (k, c.in-Some.record) ∷ []) ≡ length c.loop-k.yielded + 1 = length_push c.loop-k.yielded (k, c.in-Some.record) in
    let more : k + 1 ≡ length (c.loop-k.yielded ++ (k, c.in-Some.record) ∷ []) + 1 = omega (arith, count, t.0) in (
      length-set fs c.in-Some.record.now.parent c.push.result ∙ c.loop-k.invariant.0,
      length-set c.loop-k.ranks k _ ∙ c.loop-k.invariant.1,
      λ i l. ap (λ p. members_at (set fs p c.push.result) i) parent
          ∙ linked_more rs (searchable route) fs k pos t.1 so_far c.push.result (omega (arith, before, c.loop-k.invariant.0, t.1)) (pushed (λ j. j) 0 (get_or fs c.in-Some.record.now.parent no_family) c.push.result k (omega (arith, few_linked, c.push.ensures.four)) (c.push.ensures.counted few_linked) (c.push.ensures.kept few_linked) ∙ ap (λ p. k ∷ members_at fs p) parent) i l
          ∙ ap (λ n. children_before rs n i) more,
      λ j l. set_more 0 (rank_of rs) c.loop-k.ranks k _ (omega (arith, c.loop-k.invariant.1, t.1)) (ap (λ p. (get_or fs p no_family).count) parent ∙ rank_is rs (searchable route) fs k pos t.1 so_far)
          (λ j l. c.loop-k.invariant.3 j (omega (arith, t.0))) j (omega (arith, more)),
    )

pub returns : goal.returns
returns c =
    let rs = records_of c.args.route.now in
    let all = last_turn rs _ (cc) (cc) (cc) c.loop-k.yielded _ c.loop-k.yielded_by _ _ c.in-None.is c.next.ensures.steps (searchable c.args.route.now).some in
    record {
      families = λ i l. c.loop-k.invariant.2 i l ∙ ap (λ n. children_before rs n i) all;
      ranks = λ k l. c.loop-k.invariant.3 k (omega (arith, all));
    }
