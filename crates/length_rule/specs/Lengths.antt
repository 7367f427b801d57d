-- The length that hangs at an index, and the length that enters it.
use Rattle.std.specs.Prelude.{◌≡◌, ℕ, zero, suc, ◌+◌, ◌<◌, cond, List, length}
use Rattle.net.specs.declared.records.record.Record.{Record}
use Rattle.length_rule.specs.Children.{children, sum_over}
use Rattle.length_rule.specs.Marks.{head_at, trunk_at}

-- what hangs at an index by itself, besides its children: nothing
abbrev pub own_length : List Record → ℕ → ℕ
own_length rs i = 0

-- The rule, of a length hanging at each index and a length entering each. What hangs at i sums, over the children k of i
-- without a head buffer, 1 + the length entering k. What enters i is 0 with a trunk buffer at i, else what hangs at i.
pub record KeepsRule (rs : List Record) (ms : List ℕ) (hanging entering : ℕ → ℕ) : Type 0 where
  pub hangs : (i : ℕ) → i < length rs → hanging i ≡ own_length rs i + sum_over (children rs i) (λ k. cond (head_at ms k) 0 (1 + entering k))
  pub enters : (i : ℕ) → i < length rs → entering i ≡ cond (trunk_at ms i) 0 (hanging i)

-- what hangs at i, counted down to so many records below it
abbrev pub hanging_in : ℕ → List Record → List ℕ → ℕ → ℕ
hanging_in zero rs ms i = 0
hanging_in (suc deep) rs ms i =
    own_length rs i + sum_over (children rs i) (λ k. cond (head_at ms k) 0 (1 + cond (trunk_at ms k) 0 (hanging_in deep rs ms k)))

-- no index has more records below it than there are: these keep the rule on every route, and nothing else does
abbrev pub hanging : List Record → List ℕ → ℕ → ℕ
hanging rs ms i = hanging_in (length rs) rs ms i

abbrev pub entering : List Record → List ℕ → ℕ → ℕ
entering rs ms i = cond (trunk_at ms i) 0 (hanging rs ms i)

-- the lengths are the rule's, and whatever keeps the rule tells the same lengths
pub record LengthsAreTheRule (rs : List Record) (ms : List ℕ) : Type 0 where
  pub keeps : KeepsRule rs ms (hanging rs ms) (entering rs ms)
  pub only : (h e : ℕ → ℕ) → KeepsRule rs ms h e → (i : ℕ) → i < length rs → (h i ≡ hanging rs ms i) × (e i ≡ entering rs ms i)
