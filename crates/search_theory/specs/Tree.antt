-- The tree of a net by its parents, and values that climb it.
use Rattle.std.specs.Prelude.{ℕ, zero, suc, Bool, cond, ◌&&◌, List, [], ◌∷◌, map, ◌==◌, nat_lt}
use Rattle.search_theory.specs.Costs.{below}

-- those of a list that pass a test
abbrev pub keep : (ℕ → Bool) → List ℕ → List ℕ
keep q [] = []
keep q (k ∷ ks) = cond (q k) (k ∷ keep q ks) (keep q ks)

-- k is a child of i; index 0 is nobody's child
abbrev pub child : (ℕ → ℕ) → ℕ → ℕ → Bool
child parent i k = nat_lt 0 k && parent k == i

-- the children of i among the first n, the last first
abbrev pub children : (ℕ → ℕ) → ℕ → ℕ → List ℕ
children parent n i = keep (child parent i) (below n)

-- a value for each index from those of its children, with fuel for the depth of the tree
abbrev pub climb : {A : Type 0} → A → (ℕ → List A → A) → (ℕ → ℕ) → ℕ → ℕ → ℕ → A
climb d step parent n zero i = d
climb d step parent n (suc f) i = step i (map (climb d step parent n f) (children parent n i))
