-- The search over a whole net, and what is claimed of it: the layout that it answers is legal and no legal layout costs
-- less, and it answers none only where no layout is legal.
use Rattle.std.specs.Prelude.{◌≡◌, ℕ, zero, suc, true, false, cond, List, [], Some, None, Option, ◌==◌, nat_lt}
use Rattle.search_theory.specs.Costs.{Kind}
use Rattle.search_theory.specs.Tree.{climb}
use Rattle.search_theory.specs.Entries.{Priced, Row, given, what_or}
use Rattle.search_theory.specs.Joining.{Branch, Choice, table, finish, best_entry}
use Rattle.search_theory.specs.Layouts.{Problem, Rooted, kids, Layout, Legal, layout_cost}

-- the row of an index from those of its children; the driver has no trunk buffer
abbrev pub fork : {C : Type 0} → Kind C → Problem C → ℕ → List (Row C Choice) → Row C Choice
fork o N i rs = finish o N.limit (nat_lt 0 i) (N.spare i) (N.price i) (table o N.limit (N.price i) rs)

abbrev pub row : {C : Type 0} → Kind C → Problem C → ℕ → Row C Choice
row o N i = climb (λ e. None) (fork o N) N.parent N.count N.count i

abbrev pub no_branch : Branch
no_branch = record { head = false; entering = 0 }

abbrev pub no_choice : Choice
no_choice = record { trunk = false; branches = [] }

-- what the parent of k chose for k, where the length e enters the parent
abbrev pub choice_for : {C : Type 0} → Problem C → (ℕ → Row C Choice) → ℕ → ℕ → Branch
choice_for N r k e = given no_branch k (kids N (N.parent k)) (what_or no_choice (r (N.parent k) e)).branches

-- the length that is handed down to index k, where the driver has e
abbrev pub handed_down : {C : Type 0} → Problem C → (ℕ → Row C Choice) → ℕ → ℕ → ℕ → ℕ
handed_down N r e zero k = e
handed_down N r e (suc f) k = cond (k == 0) e (choice_for N r k (handed_down N r e f (N.parent k))).entering

-- the buffers of each index, where these lengths are handed down
abbrev pub layout_of : {C : Type 0} → Problem C → (ℕ → Row C Choice) → (ℕ → ℕ) → Layout
layout_of N r lengths k = record {
  head = cond (k == 0) false (choice_for N r k (lengths (N.parent k))).head;
  trunk = (what_or no_choice (r k (lengths k))).trunk;
}

abbrev pub answered : {C : Type 0} → Problem C → (ℕ → Row C Choice) → Option (Priced C ℕ) → Option (Priced C Layout)
answered N r None = None
answered N r (Some b) = Some (record { cost = b.cost; what = layout_of N r (handed_down N r b.what N.count) })

-- the cheapest entry of the driver's row, and the layout that it unfolds to
abbrev pub found : {C : Type 0} → Kind C → Problem C → Option (Priced C Layout)
found o N = answered N (row o N) (best_entry o (suc N.limit) (row o N 0))

-- legal, of this cost, and no legal layout costs less
pub record Best {C : Type 0} (o : Kind C) (N : Problem C) (a : Priced C Layout) : Type 0 where
  pub legal : Legal N a.what
  pub cost : a.cost ≡ layout_cost o N a.what
  pub least : (m : Layout) → Legal N m → o.at_most a.cost (layout_cost o N m) ≡ true

abbrev pub Right : {C : Type 0} → Kind C → Problem C → Option (Priced C Layout) → Type 0
Right o N None = (m : Layout) → Legal N m → ⊥
Right o N (Some a) = Best o N a

-- whatever the net, its spare sites and prices
abbrev pub SearchStands : {C : Type 0} → Kind C → Type 0
SearchStands {C} o = (N : Problem C) → Rooted N → Right o N (found o N)
