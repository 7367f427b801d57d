-- The driver's length is its own, and each other index gets what its parent's choice hands it.
use Rattle.std.proofs.Common.{◌≡◌, ℕ, ◌+◌, ◌<◌, ◌≤◌, false, [], ◌∷◌, ◌++◌, length, replicate, get_or, refl, sym, ap, ◌∙◌, arith, length-set}
use Rattle.std.proofs.lemmas.List.{length_push}
use Rattle.net.specs.declared.records.Route.{Route}
use Rattle.net.specs.Checked.{records_of}
use Rattle.net.specs.Routes.{parent_of}
use Rattle.best_plan.specs.Chosen.{problem, mark_of}
use Rattle.search_cells.specs.Cells.{branch_of, rows_within}
use Rattle.search_cells.proofs.Inplace.{first_only, set_more}
use Rattle.search_theory.specs.Costs.{kind_of, Kind}
use Rattle.search_theory.specs.Layouts.{Rooted}
use Rattle.search_theory.specs.Search.{choice_for, handed_down}
use Rattle.search_theory.proofs.Handed.{handed_first, handed_next, layout_first, layout_next}
use Rattle.search.specs.Rows.{handed_mark}
use Rattle.search_cells.proofs.Narrow.{searchable}
use Rattle.search.proofs.Nets.{few, parent_small}
use Rattle.search.proofs.Turns.{next_turn, last_turn}
use Rattle.search.proofs.marks.Rows.decide.Goals as goal

rooted : {C : Type 0} (o : Kind C) (limit : ℕ) (r : Route) → Rooted (problem o limit (records_of r) [] [])
rooted o limit r = let s = searchable r in record { some = s.some; before = s.earlier }

pub loop-k-init : goal.loop-k-init
loop-k-init g c =
    let m = g.P.Cost in
    let o = kind_of m in
    let rows = c.args.self.now in
    let rs = records_of rows.route.now in
    let N = problem o rows.limit.value rs [] [] in
    let root = rooted o rows.limit.value rows.route.now in
    let r = rows_within m.held rows.cells.now rows.limit.value in
    let some : 0 < length rs = (searchable rows.route.now).some in (
      refl,
      first_only (λ j. get_or (replicate 256 c.args.e) j 0 ≡ handed_down N r c.args.e (length rs) j) (sym (handed_first N root r c.args.e)),
      λ j l. set_more 0 (handed_mark N r c.args.e) c.args.marks.now 0 c.mark_of.result (omega arith)
          (c.mark_of.ensures ∙ ap (λ t. mark_of (record { head = false; trunk = t })) c.trunk.ensures ∙ ap mark_of (sym (layout_first N root r c.args.e)))
          (λ k h. absurd (omega arith)) j (omega arith),
    )

pub loop-k-preserved : goal.loop-k-preserved
loop-k-preserved g c =
    let m = g.P.Cost in
    let o = kind_of m in
    let rows = c.args.self.now in
    let rs = records_of rows.route.now in
    let N = problem o rows.limit.value rs [] [] in
    let root = rooted o rows.limit.value rows.route.now in
    let r = rows_within m.held rows.cells.now rows.limit.value in
    let k = c.in-Some.k in
    let n = length c.loop-k.yielded in
    let t = next_turn rs _ (cc) (cc) (cc) c.loop-k.yielded _ c.loop-k.yielded_by _ _ c.in-Some.k c.in-Some.record c.in-Some.is c.next.ensures.steps in
    let pos : 0 < k = omega (arith, t.0) in
    let inside : k < length rs = t.1 in
    let room = length-set c.args.marks.now 0 c.mark_of.result in
    let most : length rs ≤ 256 = few rows.route.now in
    let before : parent_of rs k < k = (searchable rows.route.now).earlier k pos inside in
    let count : length (c.loop-k.yielded ++ (k, c.in-Some.record) ∷ []) ≡ n + 1 = length_push c.loop-k.yielded (k, c.in-Some.record) in
    let above : get_or c.loop-k.lengths c.in-Some.record.now.parent 0 ≡ handed_down N r c.args.e (length rs) (parent_of rs k) =
    ap (λ x. get_or c.loop-k.lengths x.parent 0) t.2 ∙ c.loop-k.invariant.1 (parent_of rs k) (omega (arith, before, t.0)) in
    let is : branch_of c.leg-leg.result ≡ choice_for N r k (handed_down N r c.args.e (length rs) (parent_of rs k)) = c.leg-leg.ensures ∙ ap (choice_for N r k) above in (
      length-set c.loop-k.lengths k c.leg-leg.result.entering ∙ c.loop-k.invariant.0,
      λ j l. set_more 0 (handed_down N r c.args.e (length rs)) c.loop-k.lengths k c.leg-leg.result.entering (omega (arith, inside, c.loop-k.invariant.0))
          (ap (λ b. b.entering) is ∙ sym (handed_next N root r c.args.e k pos inside)) (λ j l. c.loop-k.invariant.1 j (omega (arith, t.0))) j (omega (arith, count, t.0)),
      λ j l. set_more 0 (handed_mark N r c.args.e) c.loop-k.marks k c.mark_of-in-loop-k.result (omega (arith, room, inside))
          (c.mark_of-in-loop-k.ensures ∙ ap (λ t. mark_of (record { head = c.leg-leg.result.head; trunk = t })) c.trunk-in-loop-k.ensures
          ∙ ap mark_of (sym (layout_next N root r c.args.e k pos inside (branch_of c.leg-leg.result) is)))
          (λ j l. c.loop-k.invariant.2 j (omega (arith, t.0))) j (omega (arith, count, t.0)),
    )

pub bounds-lengths-record : goal.bounds-lengths-record
bounds-lengths-record g c =
    let rs = records_of c.args.self.now.route.now in
    parent_small c.args.self.now.route.now _ _ _ (next_turn rs _ (cc) (cc) (cc) c.loop-k.yielded _ c.loop-k.yielded_by _ _ c.in-Some.k c.in-Some.record c.in-Some.is c.next.ensures.steps)

pub returns : goal.returns
returns g c k h =
    let rs = records_of c.args.self.now.route.now in
    c.loop-k.invariant.2 k (omega (arith, last_turn rs _ (cc) (cc) (cc) c.loop-k.yielded _ c.loop-k.yielded_by _ _ c.in-None.is c.next.ensures.steps (searchable c.args.self.now.route.now).some))
