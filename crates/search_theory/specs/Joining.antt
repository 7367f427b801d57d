-- The search at one index: its children joined one by one in a table by head buffers so far and length hanging, and
-- the index's own row from that table.
use Rattle.std.specs.Prelude.{ℕ, zero, suc, ◌-◌, Bool, true, false, cond, ◌&&◌, List, [], ◌∷◌, Some, None, Option, ◌==◌, nat_le}
use Rattle.search_theory.specs.Costs.{Kind}
use Rattle.search_theory.specs.Entries.{Priced, Row, cheaper, cheapest}

-- what is chosen for one child: whether it has a head buffer, and the length that enters it
pub record Branch : Type 0 where
  pub head : Bool
  pub entering : ℕ

-- what is chosen at one index: whether it has a trunk buffer, and a branch for each child, the last child first
pub record Choice : Type 0 where
  pub trunk : Bool
  pub branches : List Branch

-- by the number of head buffers, and by the length that hangs
abbrev pub Table : Type 0 → Type 0
Table C = ℕ → ℕ → Option (Priced C (List Branch))

-- before any child: no head buffer, nothing hangs
abbrev pub start : {C : Type 0} → Kind C → Table C
start o h j = cond (h == 0 && j == 0) (Some (record { cost = o.nothing; what = [] })) None

abbrev pub tagged : {C X : Type 0} → ℕ → Option (Priced C X) → Option (Priced C ℕ)
tagged e None = None
tagged e (Some a) = Some (record { cost = a.cost; what = e })

-- one branch more
abbrev pub join : {C : Type 0} → Kind C → Bool → Option (Priced C (List Branch)) → Option (Priced C ℕ) → Option (Priced C (List Branch))
join o f None r = None
join o f (Some t) None = None
join o f (Some t) (Some r) = Some (record { cost = o.plus t.cost r.cost; what = record { head = f; entering = r.what } ∷ t.what })

abbrev pub charged : {C X : Type 0} → Kind C → C → Option (Priced C X) → Option (Priced C X)
charged o c None = None
charged o c (Some a) = Some (record { cost = o.plus a.cost c; what = a.what })

-- the cheapest of the first n entries of a row, with its length
abbrev pub best_entry : {C X : Type 0} → Kind C → ℕ → Row C X → Option (Priced C ℕ)
best_entry o n r = cheapest o n (λ e. tagged e (r e))

-- a child with a head buffer, which pays for the next site
abbrev pub headed : {C : Type 0} → Kind C → (ℕ → C) → Table C → Option (Priced C ℕ) → ℕ → ℕ → Option (Priced C (List Branch))
headed o p t r zero j = None
headed o p t r (suc h) j = charged o (p h) (join o true (t h j) r)

-- one child more: without a head buffer, or with one that drives at most the limit
abbrev pub step : {C X : Type 0} → Kind C → ℕ → (ℕ → C) → Table C → Row C X → Table C
step o limit p t r h j =
    cheaper o (cheapest o j (λ e. join o false (t h (j - suc e)) (tagged e (r e)))) (headed o p t (best_entry o limit r) h j)

abbrev pub table : {C X : Type 0} → Kind C → ℕ → (ℕ → C) → List (Row C X) → Table C
table o limit p [] = start o
table o limit p (r ∷ rs) = step o limit p (table o limit p rs) r

abbrev pub chosen : {C : Type 0} → Bool → Option (Priced C (List Branch)) → Option (Priced C Choice)
chosen f None = None
chosen f (Some a) = Some (record { cost = a.cost; what = record { trunk = f; branches = a.what } })

-- with no trunk buffer, the length e
abbrev pub plain : {C : Type 0} → Kind C → ℕ → Table C → ℕ → Option (Priced C Choice)
plain o spare t e = chosen false (cheapest o (suc spare) (λ h. t h e))

-- with a trunk buffer, whatever hangs within the limit
abbrev pub trunked : {C : Type 0} → Kind C → ℕ → ℕ → (ℕ → C) → Table C → Option (Priced C Choice)
trunked o limit spare p t = chosen true (cheapest o spare (λ h. charged o (p h) (cheapest o (suc limit) (λ j. t h j))))

-- the row of an index; `free` says that it may have a trunk buffer
abbrev pub finish : {C : Type 0} → Kind C → ℕ → Bool → ℕ → (ℕ → C) → Table C → Row C Choice
finish o limit free spare p t e =
    cond (nat_le e limit) (cheaper o (plain o spare t e) (cond (free && e == 0) (trunked o limit spare p t) None)) None
