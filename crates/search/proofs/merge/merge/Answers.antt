-- What is written of the table is not read again: the rows below are joined from what stood there.
use Rattle.std.proofs.Common.{◌≡◌, ℕ, suc, ◌+◌, ◌-◌, ◌*◌, ◌<◌, ◌≤◌, ◌++◌, length, get_or, take, drop, None, sym, ap, ◌∙◌, subst, inl, inr, suc-mul, eq-or-lt_of_le, length-take-le, arith}
use Rattle.length_rule.specs.Costs.{kth_price}
use Rattle.search_cells.specs.Cells.{as_joined, as_reached, row_in, line_in, table_of, HasRoom, joined_row}
use Rattle.search_cells.proofs.Inplace.{front_entry, merged_row, row_room, low_room}
use Rattle.search_cells.proofs.Parts.{rows_apart, within_row, before_row, after_row}
use Rattle.search_theory.specs.Costs.{kind_of}
use Rattle.search_theory.specs.Joining.{step, best_entry}
use Rattle.search.proofs.merge.merge.Goals as goal

-- so many cells lie in the rows from the first
rows_more : (n w limit : ℕ) → 0 < n → w ≡ limit + 1 → n * (limit + 1) ≡ (n - 1) * w + w
rows_more n w limit some wide = let is : suc (n - 1) ≡ n = omega arith in ap (λ m. n * m) (sym wide) ∙ ap (λ k. k * w) (sym is) ∙ suc-mul (n - 1) w

pub merge_row-requires : goal.merge_row-requires
merge_row-requires g c =
    let m = g.P.Cost in
    let limit = c.args.limit.value in
    let w = c.width-width.result in
    let h = c.loop-h.h - 1 in
    let old = c.args.table.now in
    let below = c.split_at_mut-below.result.0.now in
    let rest = c.split_at_mut-below.result.1.now in
    let wide : w ≡ limit + 1 = c.width-width.ensures in
    let next : c.loop-h.h * (limit + 1) ≡ h * w + w = rows_more c.loop-h.h w limit (omega arith) wide in
    let span : h * w + w ≤ 5 * w = rows_apart h 5 w (omega arith) in
    let cells : length rest + h * w ≡ length c.loop-h.table = c.split_at_mut-below.ensures.back_len in
    let fits : w ≤ length rest = omega arith in
    let row : length (take w rest) ≡ w = length-take-le w rest fits in
    let same : (k : ℕ) → k < h * w + w → get_or (below ++ rest) k None ≡ get_or old k None =
    λ k l. ap (λ t. get_or t k None) (sym c.split_at_mut-below.ensures.value) ∙ c.loop-h.invariant.before k (omega arith) in
    let down : 0 < h → (h - 1) * w ≡ (h - 1) * (limit + 1) = λ _. ap (λ n. (h - 1) * n) wide in
    record {
      small = omega arith;
      other = omega arith;
      room = λ k l. row_room (kind_of m) m.held limit w wide (kth_price m.nothing m.plus c.args.price) below rest old c.args.child.now h c.split_at_mut-below.ensures.front_len same
          (λ k l. subst (λ n. HasRoom (get_or old (h * n + k) None)) (sym wide) (c.requires.room h k (omega arith) l)) k (omega arith);
      roomy = λ k l. subst (λ xs. HasRoom (get_or xs k None)) (sym c.last_row.ensures)
          (low_room (kind_of m) m.held limit w wide (kth_price m.nothing m.plus c.args.price) below rest old c.args.child.now h c.split_at_mut-below.ensures.front_len same
          (λ s k l. subst (λ n. HasRoom (get_or old ((h - 1) * n + k) None)) (sym wide) (c.requires.room (h - 1) k (omega arith) l)) k (omega arith));
    }

pub loop-h-preserved : goal.loop-h-preserved
loop-h-preserved g c =
    let m = g.P.Cost in
    let o = kind_of m in
    let limit = c.args.limit.value in
    let w = c.width-width.result in
    let h = c.loop-h.h - 1 in
    let old = c.args.table.now in
    let child = c.args.child.now in
    let below = c.split_at_mut-below.result.0.now in
    let rest = c.split_at_mut-below.result.1.now in
    let own = c.merge_row.new.own in
    let p = kth_price m.nothing m.plus c.args.price in
    let r = row_in m.held child in
    let wide : w ≡ limit + 1 = c.width-width.ensures in
    let next : c.loop-h.h * (limit + 1) ≡ h * w + w = rows_more c.loop-h.h w limit (omega arith) wide in
    let span : h * w + w ≤ 5 * w = rows_apart h 5 w (omega arith) in
    let lies : length below ≡ h * w = c.split_at_mut-below.ensures.front_len in
    let cells : length rest + h * w ≡ length c.loop-h.table = c.split_at_mut-below.ensures.back_len in
    let row : length (take w rest) ≡ w = length-take-le w rest (omega arith) in
    let kept : length own ≡ w = omega arith in
    let same : (k : ℕ) → k < h * w + w → get_or (below ++ rest) k None ≡ get_or old k None =
    λ k l. ap (λ t. get_or t k None) (sym c.split_at_mut-below.ensures.value) ∙ c.loop-h.invariant.before k (omega arith) in
    let new = below ++ (own ++ drop w rest) in
    let first : as_reached m.held c.best_entry-first.result ≡ best_entry o limit r =
    c.best_entry-first.ensures ∙ front_entry o m.held child c.figure.result (omega arith) ∙ ap (λ n. best_entry o n r) c.figure.ensures in
    record {
      before = λ k l. let inside : k < length below = omega (arith, ap (λ n. h * n) wide) in before_row None below own rest w kept k inside ∙ same k (omega arith);
      after = λ i j a b d. elim (eq-or-lt_of_le a) [
        | inl e ↦
            subst (λ i. table_of m.held new (limit + 1) i j ≡ step o limit p (table_of m.held old (limit + 1)) r i j) e
            (subst (λ n. table_of m.held new n h j ≡ step o limit p (table_of m.held old n) r h j) wide
            (ap (as_joined m.held) (ap (λ n. get_or new (n + j) None) (sym lies) ∙ within_row None below own rest w kept j (omega arith))
            ∙ c.merge_row.ensures j (omega arith)
            ∙ ap (λ xs. joined_row o c.kth_price.result (line_in m.held (take w rest)) r (line_in m.held xs) (as_reached m.held c.best_entry-first.result) j) c.last_row.ensures
            ∙ ap (λ x. joined_row o c.kth_price.result (line_in m.held (take w rest)) r (line_in m.held (drop (length below - w) below)) x j) first
            ∙ merged_row o m.held limit w wide p below rest old child h lies same c.kth_price.result (c.kth_price.ensures ∙ ap p c.saturating_sub-less.ensures) j d))
        | inr l ↦
            let far = rows_apart h i w l in
            ap (as_joined m.held) (after_row None below own rest w kept (i * (limit + 1) + j) (omega (arith, far, ap (λ n. i * n) wide)) ∙ ap (λ t. get_or t (i * (limit + 1) + j) None) (sym c.split_at_mut-below.ensures.value))
            ∙ c.loop-h.invariant.after i j (omega arith) b d
      ];
    }
