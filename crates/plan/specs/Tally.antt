-- What the table of needs holds as marks are counted. Only the count's own functions speak of it.
use Rattle.std.specs.Prelude.{◌≡◌, ℕ, ◌<◌, List, length, slice_index}
use Rattle.net.specs.declared.records.record.Record.{Record}
use Rattle.length_rule.specs.Children.{indices, sum_over}
use Rattle.length_rule.specs.Gates.{buffers_at, standing_at}

-- the buffers of the first k marks, by the index in whose tile they stand
pub record Tallied (rs : List Record) (ms : List ℕ) (k : ℕ) (needs : List ℕ) : Type 0 where
  pub size : length needs ≡ 256
  pub each : (j : ℕ) → j < 256 → slice_index needs j ≡ sum_over (indices k) (λ m. standing_at j (buffers_at rs ms m))
