use Rattle.std.proofs.Common.{◌≡◌, ℕ, zero, suc, [], length, get_or, replicate, Option, Some, None, refl, ap, ◌∙◌, arith}
use Rattle.search_cells.proofs.Filling.{cleared}
use Rattle.search_theory.specs.Costs.{kind_of}
use Rattle.search.proofs.nodes.clear.Goals as goal

all_none : {X : Type 0} (n k : ℕ) → get_or (replicate {A = Option X} n None) k None ≡ None
all_none zero k = refl
all_none (suc n) zero = refl
all_none (suc n) (suc k) = all_none n k

pub returns : goal.returns
returns g c =
    let m = g.P.Cost in
    let n = length c.args.table.now in
    let none : c.fill.new.self ≡ replicate n None = c.fill.ensures.after (elim [ None ↦ λ h. refl | Some a ↦ λ h. absurd h ]) in
    λ w h j a. cleared (kind_of m) m.held c.fill.new.self w _ (ap (λ x. Some (record { cost = x; what = [] })) (ap m.held (c.to_cell.ensures ∙ ap m.stored c.nothing.ensures) ∙ g.met.P.Cost.kept m.nothing))
    (omega (arith, c.fill.ensures.len)) (λ k. ap (λ xs. get_or xs k None) none ∙ all_none n k) h j a
