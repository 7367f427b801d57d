-- Costs with `None` for what cannot be had, and the vocabulary of the proofs about branches.
use Rattle.std.proofs.Common.{◌≡◌, ℕ, suc, ◌+◌, ◌<◌, true, cond, List, [], ◌∷◌, Some, None, Option}
use Rattle.search_theory.specs.Costs.{Kind}
use Rattle.search_theory.specs.Entries.{Priced, Row}
use Rattle.search_theory.specs.Joining.{Branch}

abbrev pub add : {C : Type 0} → Kind C → Option C → Option C → Option C
add o None y = None
add o (Some x) None = None
add o (Some x) (Some y) = Some (o.plus x y)

-- what cannot be had is above every cost
abbrev pub NoMore : {C : Type 0} → Kind C → Option C → Option C → Type 0
NoMore o x None = Unit {0}
NoMore o None (Some y) = ⊥
NoMore o (Some x) (Some y) = o.at_most x y ≡ true

abbrev pub worth : {C X : Type 0} → Option (Priced C X) → Option C
worth None = None
worth (Some a) = Some a.cost

-- rows at a length each; `None` unless there are as many lengths as rows
abbrev pub rows_at : {C X : Type 0} → Kind C → List (Row C X) → List ℕ → Option C
rows_at o [] [] = Some o.nothing
rows_at o [] (e ∷ es) = None
rows_at o (r ∷ rs) [] = None
rows_at o (r ∷ rs) (e ∷ es) = add o (worth (r e)) (rows_at o rs es)

abbrev pub Has : {A : Type 0} → Option A → Type 0
Has None = ⊥
Has (Some a) = Unit {0}

abbrev pub cost_or : {C X : Type 0} → C → Option (Priced C X) → C
cost_or d None = d
cost_or d (Some a) = a.cost

abbrev pub enterings : List Branch → List ℕ
enterings [] = []
enterings (b ∷ bs) = b.entering ∷ enterings bs

abbrev pub heads : List Branch → ℕ
heads [] = 0
heads (b ∷ bs) = cond b.head (suc (heads bs)) (heads bs)

-- the length that hangs here: of each child without a head buffer one, and what enters it
abbrev pub loose_length : List Branch → ℕ
loose_length [] = 0
loose_length (b ∷ bs) = cond b.head (loose_length bs) (suc (b.entering + loose_length bs))

-- each head buffer drives at most the limit
abbrev pub Driven : ℕ → List Branch → Type 0
Driven limit [] = Unit {0}
Driven limit (b ∷ bs) = (b.head ≡ true → b.entering < limit) × Driven limit bs
