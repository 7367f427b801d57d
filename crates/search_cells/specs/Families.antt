-- The children of each index, kept in a table, and the place of each index among its siblings.
use Rattle.std.specs.Prelude.{◌≡◌, ℕ, ◌<◌, List, [], length, slice_index, slice_index_or}
use Rattle.net.specs.declared.records.record.Record.{Record}
use Rattle.net.specs.Routes.{parent_of}
use Rattle.search_theory.specs.Costs.{below}
use Rattle.search_theory.specs.Tree.{keep, child, children}
use Rattle.search_cells.specs.Lists.{last_first}
use Rattle.search_cells.specs.declared.few.Few.{Few}

abbrev pub no_family : Few ℕ
no_family = record { count = 0; items = [] }

-- the children in a family, the last first
abbrev pub members : Few ℕ → List ℕ
members f = last_first (λ k. k) 0 f.items f.count

abbrev pub members_at : List (Few ℕ) → ℕ → List ℕ
members_at fs i = members (slice_index_or fs i no_family)

-- the children of i among the first n indices, the last first
abbrev pub children_before : List Record → ℕ → ℕ → List ℕ
children_before rs n i = keep (child (parent_of rs) i) (below n)

-- how many children of its parent stand before index k
abbrev pub rank_of : List Record → ℕ → ℕ
rank_of rs k = length (children_before rs k (parent_of rs k))

-- each index has its children in its family
abbrev pub TellsFamilies : List Record → List (Few ℕ) → Type 0
TellsFamilies rs fs = (i : ℕ) → i < length rs → members_at fs i ≡ children (parent_of rs) (length rs) i

-- each index has its place among its siblings in a table
abbrev pub TellsRanks : List Record → List ℕ → Type 0
TellsRanks rs ranks = (k : ℕ) → k < length rs → slice_index ranks k ≡ rank_of rs k
