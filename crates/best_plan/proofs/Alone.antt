-- Tellings that agree along a net have the same rows, and so the same choice.
use Rattle.std.proofs.Common.{◌≡◌, ℕ, zero, suc, ◌<◌, ltb, List, [], ◌∷◌, ◌++◌, map, length, Some, None, Option, refl, ap, ◌∙◌, arith}
use Rattle.net.specs.declared.records.record.Record.{Record}
use Rattle.length_rule.specs.Costs.{kth_price}
use Rattle.search_theory.specs.Costs.{Kind}
use Rattle.search_theory.specs.Entries.{Priced}
use Rattle.search_theory.specs.Joining.{best_entry, table, finish}
use Rattle.search_theory.specs.Layouts.{Problem, Rooted, kids, Layout}
use Rattle.search_theory.specs.Search.{row, answered, layout_of, handed_down}
use Rattle.search_theory.proofs.Answer.{row_filled, filled_row}
use Rattle.search_theory.proofs.Handed.{layout_same}
use Rattle.best_plan.specs.Chosen.{problem, mark_of, marks_of, marked, chosen, ToldAlike}
use Rattle.best_plan.specs.Cheapest.{HangsTogether}

marks_same : (m u : Layout) (n : ℕ) → ((k : ℕ) → k < n → m k ≡ u k) → marks_of m n ≡ marks_of u n
marks_same m u zero same = refl
marks_same m u (suc n) same =
    ap (λ ms. ms ++ (mark_of (m n) ∷ [])) (marks_same m u n (λ k l. same k (omega arith))) ∙ ap (λ b. marks_of u n ++ (mark_of b ∷ [])) (same n (omega arith))

module _ {C : Type 0} (o : Kind C) (limit : ℕ) (rs : List Record) (spare spare' : List ℕ) (prices prices' : List (Option C)) (tree : HangsTogether rs) (alike : ToldAlike rs spare prices spare' prices') where
  abbrev N : Problem C
  N = problem o limit rs spare prices

  abbrev N' : Problem C
  N' = problem o limit rs spare' prices'

  root : Rooted N
  root = record { some = tree.some; before = tree.earlier }

  root' : Rooted N'
  root' = record { some = tree.some; before = tree.earlier }

  -- the row of an index asks for no more than what is told alike of it
  filled : (i : ℕ) → i < length rs → (e : ℕ) → row o N i e ≡ finish o limit (ltb 0 i) (N'.spare i) (N'.price i) (table o limit (N'.price i) (map (row o N) (kids N i))) e
  filled i l e =
      row_filled o N root i l e
      ∙ ap (λ s. finish o limit (ltb 0 i) s (N.price i) (table o limit (N.price i) (map (row o N) (kids N i))) e) (alike i l).0
      ∙ ap (λ p. finish o limit (ltb 0 i) (N'.spare i) (kth_price o.nothing o.plus p) (table o limit (kth_price o.nothing o.plus p) (map (row o N) (kids N i))) e) (alike i l).1

  rows_same : (i : ℕ) → i < length rs → row o N i ≡ row o N' i
  rows_same = filled_row o N' root' (row o N) filled

  pub chosen_alone : chosen o limit rs spare prices ≡ chosen o limit rs spare' prices'
  chosen_alone =
      go (best_entry o (suc limit) (row o N 0))
      ∙ ap (λ r. marked (length rs) (answered N' (row o N') (best_entry o (suc limit) r))) (rows_same 0 tree.some)
    where
      go : (b : Option (Priced C ℕ)) → marked (length rs) (answered N (row o N) b) ≡ marked (length rs) (answered N' (row o N') b)
      go None = refl
      go (Some b) = ap (λ ms. Some (record { cost = b.cost; what = ms }))
          (marks_same (layout_of N (row o N) (handed_down N (row o N) b.what (length rs))) (layout_of N' (row o N') (handed_down N' (row o N') b.what (length rs))) (length rs)
          (layout_same N root (row o N) (row o N') (λ i l e. ap (λ r. r e) (rows_same i l)) b.what))
