-- A cost kind as its operations and laws, and the sum of costs over a list of indices.
use Rattle.std.specs.Prelude.{ℕ, zero, suc, Bool, List, [], ◌∷◌}
use Rattle.laws.specs.Laws.{CostLaws}
use Rattle.cost.specs.declared.costs.Cost.{Ghosts}

pub record Kind (C : Type 0) : Type 0 where
  pub nothing : C
  pub plus : C → C → C
  -- the first is at most the second
  pub at_most : C → C → Bool

-- the kind that the members of a cost type are
abbrev pub kind_of : {C V : Type 0} → Ghosts C V → Kind C
kind_of members = record { nothing = members.nothing; plus = members.plus; at_most = members.at_most }

abbrev pub Lawful : {C : Type 0} → Kind C → Type 0
Lawful o = CostLaws o.nothing o.plus o.at_most

-- the indices below n, the last first
abbrev pub below : ℕ → List ℕ
below zero = []
below (suc n) = n ∷ below n

-- the sum of f over a list of indices
abbrev pub sum : {M : Type 0} → M → (M → M → M) → (ℕ → M) → List ℕ → M
sum z p f [] = z
sum z p f (k ∷ ks) = p (f k) (sum z p f ks)

-- the sum of costs, from nothing
abbrev pub total : {C : Type 0} → Kind C → (ℕ → C) → List ℕ → C
total o f ks = sum o.nothing o.plus f ks
