-- The rules by index, as the search sees them: what it is given, where buffers stand, which layouts are legal and what
-- they cost. Index 0 is the driver.
use Rattle.std.specs.Prelude.{◌≡◌, ℕ, ◌+◌, ◌<◌, ◌≤◌, Bool, true, false, cond, List}
use Rattle.search_theory.specs.Costs.{Kind, sum, total, below}
use Rattle.search_theory.specs.Tree.{children}

-- What the search is given. `price i k` is what the k-th site taken at index i costs, counted from 0.
pub record Problem (C : Type 0) : Type 0 where
  pub limit : ℕ
  pub count : ℕ
  pub parent : ℕ → ℕ
  pub spare : ℕ → ℕ
  pub price : ℕ → ℕ → C

-- there is a driver, and each other index has its parent before it
pub record Rooted {C : Type 0} (N : Problem C) : Type 0 where
  pub some : 0 < N.count
  pub before : (k : ℕ) → 0 < k → k < N.count → N.parent k < k

abbrev pub kids : {C : Type 0} → Problem C → ℕ → List ℕ
kids N i = children N.parent N.count i

-- which buffers an index has: a head buffer stands at its parent, a trunk buffer at the index itself
pub record Buffers : Type 0 where
  pub head : Bool
  pub trunk : Bool

abbrev pub Layout : Type 0
Layout = ℕ → Buffers

-- the sum of f over the children of i
abbrev pub over : {C : Type 0} → Problem C → ℕ → (ℕ → ℕ) → ℕ
over N i f = sum 0 ◌+◌ f (kids N i)

-- The length hanging at i sums, over the children k of i without a head buffer, 1 + the length entering k. The length
-- entering i is 0 with a trunk buffer at i, else the length hanging at i.
pub record Lengths {C : Type 0} (N : Problem C) (m : Layout) : Type 0 where
  pub hanging : ℕ → ℕ
  pub entering : ℕ → ℕ
  pub hangs : (i : ℕ) → i < N.count → hanging i ≡ over N i (λ k. cond (m k).head 0 (1 + entering k))
  pub enters : (i : ℕ) → i < N.count → entering i ≡ cond (m i).trunk 0 (hanging i)

-- the sites that index i needs: one for its trunk buffer, one for each head buffer of its children
abbrev pub needs : {C : Type 0} → Problem C → Layout → ℕ → ℕ
needs N m i = cond (m i).trunk 1 0 + over N i (λ k. cond (m k).head 1 0)

pub record Legal {C : Type 0} (N : Problem C) (m : Layout) : Type 0 where
  -- the driver has no buffer of its own
  pub unmarked_head : (m 0).head ≡ false
  pub unmarked_trunk : (m 0).trunk ≡ false
  -- each gate drives at most the limit
  pub lengths : Lengths N m
  pub driver : lengths.hanging 0 ≤ N.limit
  pub trunks : (i : ℕ) → i < N.count → (m i).trunk ≡ true → lengths.hanging i ≤ N.limit
  pub heads : (k : ℕ) → k < N.count → (m k).head ≡ true → 1 + lengths.entering k ≤ N.limit
  -- no index needs more sites than are spare
  pub sites : (i : ℕ) → i < N.count → needs N m i ≤ N.spare i

-- index by index, the prices of the sites taken there
abbrev pub layout_cost : {C : Type 0} → Kind C → Problem C → Layout → C
layout_cost o N m = total o (λ i. total o (N.price i) (below (needs N m i))) (below N.count)
