-- A row in cells is the row of the search.
use Rattle.std.proofs.Common.{◌≡◌, ℕ, ◌<◌, ◌≤◌, ltb, ◌⊎◌, map, length, sym, ap, ◌∙◌, inl, inr, arith}
use Rattle.std.proofs.lemmas.Bool.Decides.{leb_tells}
use Rattle.search_cells.specs.Cells.{five_rows}
use Rattle.search_theory.specs.Costs.{Kind}
use Rattle.search_theory.specs.Entries.{Row}
use Rattle.search_theory.specs.Joining.{Choice, Table, table, finish}
use Rattle.search_theory.specs.Layouts.{Problem, Rooted, kids}
use Rattle.search_theory.specs.Search.{row}
use Rattle.search_theory.specs.Tree.{child}
use Rattle.search_cells.proofs.Filling.{table_keep}
use Rattle.search_cells.proofs.Finishing.{five_same, five_none, finish_same}
use Rattle.search_theory.proofs.Answer.{row_filled}
use Rattle.search_theory.proofs.Arrays.{table_few}
use Rattle.search_theory.proofs.Gather.{child_later}
use Rattle.search_theory.proofs.Rebuild.{length_map}

module _ {C : Type 0} (o : Kind C) (N : Problem C) (root : Rooted N) (i : ℕ) (in' : i < N.count) (narrow : length (kids N i) ≤ 4) (r : ℕ → Row C Choice)
    (same : (k : ℕ) → i < k → k < N.count → (e : ℕ) → e ≤ N.limit → r k e ≡ row o N k e) where
  -- a table with five rows says all that there is
  all_five : (p : ℕ → C) (t : Table C) → ((h j : ℕ) → h < 5 → j ≤ N.limit → t h j ≡ table o N.limit p (map r (kids N i)) h j) → (h j : ℕ) → j ≤ N.limit → five_rows t h j ≡ table o N.limit p (map r (kids N i)) h j
  all_five p t is h j b = go (split h)
    where
      split : (h : ℕ) → (h < 5) ⊎ (5 ≤ h)
      split h = elim (leb_tells 5 h) [ inl z ↦ inr z.1 | inr z ↦ inl z.1 ]

      go : (h < 5) ⊎ (5 ≤ h) → five_rows t h j ≡ table o N.limit p (map r (kids N i)) h j
      go (inl a) = five_same t h j a ∙ is h j a b
      go (inr a) = five_none t h j a ∙ sym (table_few o N.limit p (map r (kids N i)) h j (omega (arith, length_map r (kids N i))))

  pub node_right : (p : ℕ → C) → p ≡ N.price i → (t : Table C) → ((h j : ℕ) → h < 5 → j ≤ N.limit → t h j ≡ table o N.limit p (map r (kids N i)) h j)
      → (e : ℕ) → e ≤ N.limit → finish o N.limit (ltb 0 i) (N.spare i) p (five_rows t) e ≡ row o N i e
  node_right p is t tables e l =
      finish_same o N.limit (ltb 0 i) (N.spare i) p (five_rows t) (table o N.limit p (map (row o N) (kids N i)))
      (λ h j b. all_five p t tables h j b ∙ table_keep o N.limit p (child N.parent i) r (row o N) N.count (λ k s met. same k (child_later N.parent N.count root.before i k s met) s) h j b) e l
      ∙ ap (λ p. finish o N.limit (ltb 0 i) (N.spare i) p (table o N.limit p (map (row o N) (kids N i))) e) is
      ∙ sym (row_filled o N root i in' e)
