-- What the rows of a search have in common. Only the search's own functions speak of it.
use Rattle.std.specs.Prelude.{◌≡◌, ℕ, ◌<◌, List, length, Some, None, Option}
use Rattle.std.specs.Coded.{Coded-set, coded_ℕ, Π_prop, →_prop, Unit-prop}
use Rattle.net.specs.declared.records.record.Record.{Record}
use Rattle.net.specs.Routes.{parent_of}
use Rattle.search_theory.specs.Entries.{Priced, Row, Each}
use Rattle.search_theory.specs.Joining.{Choice}
use Rattle.search_theory.specs.Layouts.{Problem}
use Rattle.search_theory.specs.Search.{layout_of, handed_down}
use Rattle.search_theory.specs.Tree.{children}
use Rattle.best_plan.specs.Chosen.{mark_of}

-- each choice has a branch for each child
abbrev pub BranchForEachChild : {C : Type 0} → List Record → (ℕ → Row C Choice) → Type 0
BranchForEachChild rs r = (i e : ℕ) → i < length rs → Each (λ a. length a.what.branches ≡ length (children (parent_of rs) (length rs) i)) (r i e)

-- it holds in one way
one_way : {C : Type 0} (n : ℕ) (a : Option (Priced C Choice)) → IsProp (Each (λ a. length a.what.branches ≡ n) a)
one_way n None = Unit-prop
one_way n (Some a) = Coded-set coded_ℕ (length a.what.branches) n

pub BranchForEachChild-prop : {C : Type 0} (rs : List Record) (r : ℕ → Row C Choice) → IsProp (BranchForEachChild rs r)
BranchForEachChild-prop rs r = Π_prop (λ i. Π_prop (λ e. →_prop (one_way (length (children (parent_of rs) (length rs) i)) (r i e))))

-- the mark of index k, where the driver hands down the length e
abbrev pub handed_mark : {C : Type 0} → Problem C → (ℕ → Row C Choice) → ℕ → ℕ → ℕ
handed_mark N r e k = mark_of (layout_of N r (handed_down N r e N.count) k)
