-- A table in cells, filled child by child of a family.
use Rattle.std.proofs.Common.{◌≡◌, ℕ, ◌+◌, ◌*◌, ◌<◌, ◌≤◌, List, map, length, get_or, None, Option, sym, ap, ◌∙◌, add-one, arith}
use Rattle.search_theory.specs.Costs.{Kind}
use Rattle.search_theory.specs.Entries.{Row}
use Rattle.search_theory.specs.Joining.{Choice, step, table}
use Rattle.search_theory.proofs.Rebuild.{length_map}
use Rattle.search_cells.specs.Cells.{as_joined, as_chosen, row_in, rows_of, table_of, HasRoom}
use Rattle.search_cells.specs.Lists.{last_first}
use Rattle.search_cells.specs.declared.Chosen.{Chosen}
use Rattle.search_cells.specs.declared.Priced.{Priced as Kept}
use Rattle.search_cells.proofs.Filling.{has_room, table_long, step_same}
use Rattle.search_cells.proofs.Pushing.{length_last_first}

module _ {C V : Type 0} (o : Kind C) (held : V → C) (limit : ℕ) (p : ℕ → C) (rows : List (Option (Kept V Chosen))) (ks : List ℕ) where
  -- the rows of the first c children
  abbrev its_rows : ℕ → List (Row C Choice)
  its_rows c = map (rows_of held rows (limit + 1)) (last_first (λ k. k) 0 ks c)

  pub gathered_room : (cell : Option (Kept V Chosen)) (c h j : ℕ) → as_joined held cell ≡ table o limit p (its_rows c) h j → c < 4 → HasRoom cell
  gathered_room cell c h j e l =
      has_room o held cell (length (its_rows c)) (table o limit p (its_rows c) h j) e (table_long o limit p (its_rows c) h j)
      (omega (arith, length_map (rows_of held rows (limit + 1)) (last_first (λ k. k) 0 ks c), length_last_first (λ k. k) 0 ks c))

  pub gathered_more : (cur new child : List (Option (Kept V Chosen))) (c : ℕ) → ((e : ℕ) → e ≤ limit → get_or child e None ≡ get_or rows (get_or ks c 0 * (limit + 1) + e) None)
      → ((h j : ℕ) → h < 5 → j ≤ limit → table_of held cur (limit + 1) h j ≡ table o limit p (its_rows c) h j)
      → ((h j : ℕ) → h < 5 → j ≤ limit → table_of held new (limit + 1) h j ≡ step o limit p (table_of held cur (limit + 1)) (row_in held child) h j)
      → (h j : ℕ) → h < 5 → j ≤ limit → table_of held new (limit + 1) h j ≡ table o limit p (its_rows (c + 1)) h j
  gathered_more cur new child c lies so_far joined h j a b =
      joined h j a b
      ∙ step_same o limit p (table_of held cur (limit + 1)) (table o limit p (its_rows c)) (row_in held child) (rows_of held rows (limit + 1) (get_or ks c 0)) 5 so_far
      (λ e l. ap (as_chosen held) (lies e l)) h j a b
      ∙ ap (λ c. table o limit p (its_rows c) h j) (sym (add-one c))
