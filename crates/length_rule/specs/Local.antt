-- What a tile needs, told at its own index.
use Rattle.std.specs.Prelude.{◌≡◌, ℕ, ◌+◌, ◌<◌, cond, List, length}
use Rattle.net.specs.declared.records.record.Record.{Record}
use Rattle.length_rule.specs.Children.{children, sum_over}
use Rattle.length_rule.specs.Gates.{need}
use Rattle.length_rule.specs.Marks.{head_at, trunk_at}

-- a tile needs its own trunk buffer and the head buffers of its children
abbrev pub NeedsAreLocal : List Record → List ℕ → Type 0
NeedsAreLocal rs ms = (i : ℕ) → i < length rs → need rs ms i ≡ cond (trunk_at ms i) 1 0 + sum_over (children rs i) (λ k. cond (head_at ms k) 1 0)
