-- One row more: the table of the index's children gives the row of the search, and the rows after it stay.
use Rattle.std.proofs.Common.{◌≡◌, ℕ, ◌+◌, ◌-◌, ◌*◌, ◌<◌, ◌≤◌, List, ◌++◌, ltb, map, length, get_or, take, drop, None, sym, ap, ◌∙◌, subst, inl, inr, eq-or-lt_of_le, length-take-le, arith}
use Rattle.std.proofs.lemmas.List.{get_or_append_left}
use Rattle.net.specs.Checked.{records_of}
use Rattle.best_plan.specs.Chosen.{problem}
use Rattle.length_rule.specs.Costs.{kth_price}
use Rattle.search_cells.specs.Cells.{as_chosen, rows_of, table_of, five_rows}
use Rattle.search_cells.specs.Families.{no_family}
use Rattle.search_cells.proofs.Kinship.{member_inside, few_members}
use Rattle.search_cells.proofs.Narrow.{searchable}
use Rattle.search_cells.proofs.Parts.{rows_apart, within_row, after_row}
use Rattle.search_cells.proofs.Walking.{node_right}
use Rattle.search_theory.specs.Costs.{kind_of}
use Rattle.search_theory.specs.Joining.{table, finish}
use Rattle.search_theory.specs.Search.{row}
use Rattle.search.proofs.walk.walk.Goals as goal

-- the row before the k-th of as many rows as there are records
row_fits : {X Y : Type 0} (k : ℕ) (ns : List Y) (rows rest : List X) (w : ℕ) → 0 < k → k ≤ length ns → length rows ≡ length ns * w → length rest + (k - 1) * w ≡ length rows → w ≤ length rest
row_fits k ns rows rest w some in' all lies = omega (arith, rows_apart (k - 1) (length ns) w (omega arith))

row_long : {X Y : Type 0} (k : ℕ) (ns : List Y) (rows rest : List X) (w : ℕ) → 0 < k → k ≤ length ns → length rows ≡ length ns * w → length rest + (k - 1) * w ≡ length rows → length (take w rest) ≡ w
row_long k ns rows rest w some in' all lies = length-take-le w rest (row_fits k ns rows rest w some in' all lies)

pub slice_bounds-finish-end : goal.slice_bounds-finish-end
slice_bounds-finish-end g c = row_fits c.loop-i.i c.records-n.result.now c.loop-i.rows c.split_at_mut-rest.result.1.now c.width-width.result (omega arith) (omega arith) (omega arith) c.split_at_mut-rest.ensures.back_len

pub slice_bounds-finish-end-in-loop-i : goal.slice_bounds-finish-end-in-loop-i
slice_bounds-finish-end-in-loop-i g c = sym (row_long c.loop-i.i c.records-n.result.now c.loop-i.rows c.split_at_mut-rest.result.1.now c.width-width.result (omega arith) (omega arith) (omega arith) c.split_at_mut-rest.ensures.back_len)

pub finish-requires : goal.finish-requires
finish-requires g c = row_long c.loop-i.i c.records-n.result.now c.loop-i.rows c.split_at_mut-rest.result.1.now c.width-width.result (omega arith) (omega arith) (omega arith) c.split_at_mut-rest.ensures.back_len ∙ c.width-width.ensures

pub gather-requires-clause-few : goal.gather-requires-clause-few
gather-requires-clause-few g c =
    let i = c.loop-i.i - 1 in
    let rs = records_of c.args.route.now in
    let within : i < length rs = omega (arith, ap length c.records-n.ensures) in
    few_members rs (get_or c.args.families.now i no_family) i (c.requires.told i within) ((searchable c.args.route.now).narrow i within)

pub gather-requires-clause-inside : goal.gather-requires-clause-inside
gather-requires-clause-inside g c = λ k l.
    let i = c.loop-i.i - 1 in
    let rs = records_of c.args.route.now in
    let n = c.records-n.result.now in
    let family = get_or c.args.families.now i no_family in
    let within : i < length rs = omega (arith, ap length c.records-n.ensures) in
    let inside = member_inside rs family i (c.requires.told i within) k l in
    let span = rows_apart (get_or family.items k 0) (length rs) (c.args.limit.value + 1) inside in
    let all : length n * c.width-width.result ≡ length rs * (c.args.limit.value + 1) = ap (λ xs. length xs * c.width-width.result) c.records-n.ensures ∙ ap (λ w. length rs * w) c.width-width.ensures in
    omega (arith, span, all, c.split_at_mut-rows.ensures.front_len)

pub loop-i-preserved : goal.loop-i-preserved
loop-i-preserved g c = λ k e a b d.
    let m = g.P.Cost in
    let o = kind_of m in
    let limit = c.args.limit.value in
    let w = c.width-width.result in
    let wide : w ≡ limit + 1 = c.width-width.ensures in
    let i = c.loop-i.i - 1 in
    let rs = records_of c.args.route.now in
    let N = problem o limit rs c.args.spare.now c.args.prices.now in
    let within : i < length rs = omega (arith, ap length c.records-n.ensures) in
    let tree = searchable c.args.route.now in
    let p = kth_price m.nothing m.plus c.offered-price.result in
    let t = table_of m.held c.gather.new.table (limit + 1) in
    let before = c.split_at_mut-rest.result.0.now in
    let rest = c.split_at_mut-rest.result.1.now in
    let own = c.finish.new.row in
    let new = before ++ (own ++ drop w rest) in
    let kept : length own ≡ w = c.finish.auto.row ∙ row_long c.loop-i.i c.records-n.result.now c.loop-i.rows rest w (omega arith) (omega arith) (omega arith) c.split_at_mut-rest.ensures.back_len in
    elim (eq-or-lt_of_le a) [
      | inl q ↦
          subst (λ k. rows_of m.held new (limit + 1) k e ≡ row o N k e) q
          (ap (λ n. as_chosen m.held (get_or new (i * n + e) None)) (sym wide)
          ∙ ap (as_chosen m.held) (ap (λ n. get_or new (n + e) None) (sym c.split_at_mut-rest.ensures.front_len) ∙ within_row None before own rest w kept e (omega arith))
          ∙ c.finish.ensures e d
          ∙ ap (λ s. finish o limit (ltb 0 i) s p (five_rows t) e) c.spare_at-spare_here.ensures
          ∙ node_right o N (record { some = tree.some; before = tree.earlier }) i within (tree.narrow i within) (rows_of m.held c.loop-i.rows (limit + 1))
          (λ k l s e d. c.loop-i.invariant k e (omega arith) s d) p (ap (kth_price m.nothing m.plus) c.offered-price.ensures) t
          (λ h j a b. c.gather.ensures h j a b ∙ ap (λ ks. table o limit p (map (rows_of m.held c.loop-i.rows (limit + 1)) ks) h j) (c.requires.told i within)) e d)
      | inr l ↦
          let far = rows_apart i k w l in
          ap (as_chosen m.held) (after_row None before own rest w kept (k * (limit + 1) + e) (omega (arith, far, ap (λ n. k * n) wide, c.split_at_mut-rest.ensures.front_len)) ∙ ap (λ xs. get_or xs (k * (limit + 1) + e) None) (sym c.split_at_mut-rest.ensures.value))
          ∙ c.loop-i.invariant k e (omega arith) b d
    ]

pub returns : goal.returns
returns g c =
    let m = g.P.Cost in
    let limit = c.args.limit.value in
    let rs = records_of c.args.route.now in
    let all : length c.records-n.result.now * c.width-width.result ≡ length rs * (limit + 1) = ap (λ xs. length xs * c.width-width.result) c.records-n.ensures ∙ ap (λ w. length rs * w) c.width-width.ensures in
    record {
      rows = λ i e a b.
          let span = rows_apart i (length rs) (limit + 1) a in
          ap (as_chosen m.held) (get_or_append_left c.loop-i.rows (c.loop-i.table ++ drop (5 * c.width-width.result) c.split_at_mut-rows.result.1.now) None (i * (limit + 1) + e) (omega (arith, span, all, c.split_at_mut-rows.ensures.front_len)))
          ∙ c.loop-i.invariant i e (omega arith) a b;
    }
