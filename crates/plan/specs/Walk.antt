-- What the table of lengths holds on the walk from the end. Only the walk's own functions speak of it.
use Rattle.std.specs.Prelude.{◌≡◌, ℕ, ◌+◌, ◌-◌, ◌<◌, ◌≤◌, cond, List, length, slice_index}
use Rattle.net.specs.declared.records.record.Record.{Record}
use Rattle.net.specs.Routes.{is_child}
use Rattle.length_rule.specs.Children.{indices, sum_over}
use Rattle.length_rule.specs.Lengths.{entering}
use Rattle.length_rule.specs.Marks.{head_at}
use Rattle.length_rule.proofs.Sums.{sum_from}

-- what the child m adds to its parent's length
abbrev pub adds : List Record → List ℕ → ℕ → ℕ
adds rs ms m = cond (head_at ms m) 0 (1 + entering rs ms m)

-- the indices from k on are walked
pub record Walked (rs : List Record) (ms : List ℕ) (k : ℕ) (lengths : List ℕ) : Type 0 where
  pub size : length lengths ≡ 256
  -- each index has what its children from k on add
  pub hung : (j : ℕ) → j < 256 → slice_index lengths j ≡ sum_from (length rs - k) k (λ m. cond (is_child rs j m) (adds rs ms m) 0)
  -- what still goes up is no more than the records walked
  pub light : sum_over (indices k) (λ j. slice_index lengths j) ≤ length rs - k
