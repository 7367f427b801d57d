-- The marks that the search chooses: a function of the limit, the records, the spare sites, and the prices of the tiles
-- that have a spare site.
use Rattle.std.specs.Prelude.{◌≡◌, ℕ, zero, suc, ◌<◌, cond, List, [], ◌∷◌, ◌++◌, length, Some, None, Option, nat_lt}
use Rattle.net.specs.declared.records.record.Record.{Record}
use Rattle.net.specs.Routes.{parent_of}
use Rattle.length_rule.specs.Legal.{spare_at}
use Rattle.length_rule.specs.Costs.{price_at, kth_price}
use Rattle.search_theory.specs.Costs.{Kind}
use Rattle.search_theory.specs.Entries.{Priced}
use Rattle.search_theory.specs.Layouts.{Problem, Buffers, Layout}
use Rattle.search_theory.specs.Search.{found}

-- the price in the tile of index i, where it has a spare site
abbrev pub offered : {C : Type 0} → List ℕ → List (Option C) → ℕ → Option C
offered spare prices i = cond (nat_lt 0 (spare_at spare i)) (price_at prices i) None

-- what the search is given
abbrev pub problem : {C : Type 0} → Kind C → ℕ → List Record → List ℕ → List (Option C) → Problem C
problem o limit rs spare prices = record {
  limit = limit;
  count = length rs;
  parent = parent_of rs;
  spare = spare_at spare;
  price = λ i. kth_price o.nothing o.plus (offered spare prices i);
}

-- the mark of an index's buffers
abbrev pub mark_of : Buffers → ℕ
mark_of b = cond b.head (cond b.trunk 3 1) (cond b.trunk 2 0)

-- a mark for each of the first n indices
abbrev pub marks_of : Layout → ℕ → List ℕ
marks_of m zero = []
marks_of m (suc n) = marks_of m n ++ (mark_of (m n) ∷ [])

abbrev pub marked : {C : Type 0} → ℕ → Option (Priced C Layout) → Option (Priced C (List ℕ))
marked n None = None
marked n (Some a) = Some (record { cost = a.cost; what = marks_of a.what n })

-- the cost and the marks of the plan that the search chooses, or none
abbrev pub chosen : {C : Type 0} → Kind C → ℕ → List Record → List ℕ → List (Option C) → Option (Priced C (List ℕ))
chosen o limit rs spare prices = marked (length rs) (found o (problem o limit rs spare prices))

-- two tellings that say the same of a net's own tiles: their spare sites, and their prices where a site is spare
abbrev pub ToldAlike : {C : Type 0} → List Record → List ℕ → List (Option C) → List ℕ → List (Option C) → Type 0
ToldAlike rs spare prices spare' prices' = (i : ℕ) → i < length rs → (spare_at spare i ≡ spare_at spare' i) × (offered spare prices i ≡ offered spare' prices' i)
