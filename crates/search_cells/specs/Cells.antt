-- What work cells mean: entries of the search's rows and tables.
use Rattle.std.specs.Prelude.{◌≡◌, ℕ, zero, suc, ◌+◌, ◌-◌, ◌*◌, ◌<◌, ◌≤◌, true, false, cond, List, length, Some, None, Option, nat_le, nat_lt, slice_index_or}
use Rattle.net.specs.declared.records.record.Record.{Record}
use Rattle.net.specs.Routes.{parent_of}
use Rattle.search_theory.specs.Costs.{Kind}
use Rattle.search_theory.specs.Entries.{Priced, Row, cheaper, cheapest}
use Rattle.search_theory.specs.Joining.{Branch, Choice, Table, tagged, join, charged}
use Rattle.search_theory.specs.Tree.{children}
use Rattle.search_cells.specs.Lists.{last_first}
use Rattle.search_cells.specs.declared.few.Few.{Few}
use Rattle.search_cells.specs.declared.Leg.{Leg}
use Rattle.search_cells.specs.declared.Chosen.{Chosen}
use Rattle.search_cells.specs.declared.Priced.{Priced as Kept}

abbrev pub no_leg : Leg
no_leg = record { head = false; entering = 0 }

abbrev pub branch_of : Leg → Branch
branch_of b = record { head = b.head; entering = b.entering }

-- the legs, the last first
abbrev pub listed : Few Leg → List Branch
listed legs = last_first branch_of no_leg legs.items legs.count

abbrev pub choice_of : Chosen → Choice
choice_of c = record { trunk = c.trunk; branches = listed c.legs }

-- `held` reads a cost from its plain numbers
module _ {C V : Type 0} (held : V → C) where
  -- what is kept, with `read` for what leads to it
  abbrev pub seen : {W X : Type 0} → (W → X) → Option (Kept V W) → Option (Priced C X)
  seen read None = None
  seen read (Some a) = Some (record { cost = held a.cost; what = read a.what })

  -- a cell of a table
  abbrev pub as_joined : Option (Kept V Chosen) → Option (Priced C (List Branch))
  as_joined a = seen (λ c. listed c.legs) a

  -- a cell of a row
  abbrev pub as_chosen : Option (Kept V Chosen) → Option (Priced C Choice)
  as_chosen a = seen choice_of a

  abbrev pub as_reached : Option (Kept V ℕ) → Option (Priced C ℕ)
  as_reached a = seen (λ e. e) a

  -- a row in its cells, and a table's row
  abbrev pub row_in : List (Option (Kept V Chosen)) → ℕ → Option (Priced C Choice)
  row_in xs e = as_chosen (slice_index_or xs e None)

  abbrev pub line_in : List (Option (Kept V Chosen)) → ℕ → Option (Priced C (List Branch))
  line_in xs j = as_joined (slice_index_or xs j None)

  -- row k of rows of w cells
  abbrev pub rows_of : List (Option (Kept V Chosen)) → ℕ → ℕ → Row C Choice
  rows_of xs w k e = row_in xs (k * w + e)

  -- the table in rows of w cells
  abbrev pub table_of : List (Option (Kept V Chosen)) → ℕ → Table C
  table_of xs w h j = line_in xs (h * w + j)

  -- the rows of limit + 1 cells, with nothing past the limit
  abbrev pub rows_within : List (Option (Kept V Chosen)) → ℕ → ℕ → Row C Choice
  rows_within xs limit k e = cond (nat_le e limit) (rows_of xs (limit + 1) k e) None

-- there is room for one leg more
abbrev pub HasRoom : {V : Type 0} → Option (Kept V Chosen) → Type 0
HasRoom None = Unit {0}
HasRoom (Some a) = a.what.legs.count < 4

module _ {C V W : Type 0} (o : Kind C) (held : V → C) where
  -- the cheaper of two that are kept, the first where they tie
  abbrev pub lesser : Option (Kept V W) → Option (Kept V W) → Option (Kept V W)
  lesser None b = b
  lesser (Some a) None = Some a
  lesser (Some a) (Some b) = cond (o.at_most (held a.cost) (held b.cost)) (Some a) (Some b)

  -- the cheapest of f 0 to f (n - 1), the first of those that tie
  abbrev pub least : ℕ → (ℕ → Option (Kept V W)) → Option (Kept V W)
  least zero f = None
  least (suc n) f = lesser (least n f) (f n)

  -- the cheapest of what is answered at 0 to n - 1
  pub record LeastOf (n : ℕ) (answers : ℕ → Option (Kept V W) → Type 0) (r : Option (Kept V W)) : Type 0 where
    pub got : ℕ → Option (Kept V W)
    pub each : (k : ℕ) → k < n → answers k (got k)
    pub is : r ≡ least n got

module _ {C X : Type 0} (o : Kind C) (price : C) where
  -- a row of a table with one child more: `own` is that row, `low` the one with one head buffer less
  abbrev pub joined_row : (ℕ → Option (Priced C (List Branch))) → Row C X → (ℕ → Option (Priced C (List Branch))) → Option (Priced C ℕ) → ℕ → Option (Priced C (List Branch))
  joined_row own r low first j =
      cheaper o (cheapest o j (λ e. join o false (own (j - suc e)) (tagged e (r e)))) (charged o price (join o true (low j) first))

-- a table with at most four head buffers
abbrev pub five_rows : {C : Type 0} → Table C → Table C
five_rows t h j = cond (nat_lt h 5) (t h j) None

-- records that hang together, none with more than four children, as those of any route
pub record Searchable (rs : List Record) : Type 0 where
  pub some : 0 < length rs
  pub earlier : (k : ℕ) → 0 < k → k < length rs → parent_of rs k < k
  pub narrow : (i : ℕ) → i < length rs → length (children (parent_of rs) (length rs) i) ≤ 4
