-- What the search keeps: values with what they cost, or nothing at all where no plan leads; and the cheapest of several.
use Rattle.std.specs.Prelude.{ℕ, zero, suc, cond, List, [], ◌∷◌, Some, None, Option, ◌==◌}
use Rattle.search_theory.specs.Costs.{Kind}

-- a value with what it costs
pub record Priced (C X : Type 0) : Type 0 where
  pub cost : C
  pub what : X

-- the cheaper of two, the first where they tie
abbrev pub cheaper : {C X : Type 0} → Kind C → Option (Priced C X) → Option (Priced C X) → Option (Priced C X)
cheaper o None b = b
cheaper o (Some a) None = Some a
cheaper o (Some a) (Some b) = cond (o.at_most a.cost b.cost) (Some a) (Some b)

-- the cheapest of f 0 to f (n - 1), the first of those that tie
abbrev pub cheapest : {C X : Type 0} → Kind C → ℕ → (ℕ → Option (Priced C X)) → Option (Priced C X)
cheapest o zero f = None
cheapest o (suc n) f = cheaper o (cheapest o n f) (f n)

-- a row: for each length, what it costs at least to have that length enter an index, and how
abbrev pub Row : Type 0 → Type 0 → Type 0
Row C X = ℕ → Option (Priced C X)

-- of what is given to each of ks, that of k
abbrev pub given : {A : Type 0} → A → ℕ → List ℕ → List A → A
given d k [] xs = d
given d k (j ∷ ks) [] = d
given d k (j ∷ ks) (x ∷ xs) = cond (k == j) x (given d k ks xs)

abbrev pub what_or : {C X : Type 0} → X → Option (Priced C X) → X
what_or d None = d
what_or d (Some a) = a.what

-- P of whatever is there
abbrev pub Each : {X : Type 0} → (X → Type 0) → Option X → Type 0
Each P None = Unit {0}
Each P (Some a) = P a
