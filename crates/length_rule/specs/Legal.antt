-- Which plans are legal.
use Rattle.std.specs.Prelude.{ℕ, ◌<◌, ◌≤◌, List, length, slice_index}
use Rattle.std.specs.List.{AllByRecursion}
use Rattle.net.specs.declared.records.record.Record.{Record}
use Rattle.length_rule.specs.Marks.{Plan}
use Rattle.length_rule.specs.Gates.{gates_at, need}

-- the spare sites in the tile of an index; none where none is told
abbrev pub spare_at : List ℕ → ℕ → ℕ
spare_at spare i = slice_index spare i

-- each gate drives at most the limit, and no tile needs more buffers than it has spare sites
pub record Legal (limit : ℕ) (rs : List Record) (spare ms : List ℕ) : Type 0 where
  pub plan : Plan rs ms
  pub driven : (i : ℕ) → i < length rs → AllByRecursion (λ g. g.drives ≤ limit) (gates_at rs ms i)
  pub fits : (i : ℕ) → i < length rs → need rs ms i ≤ spare_at spare i
