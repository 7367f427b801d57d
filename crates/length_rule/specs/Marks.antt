-- A plan is a mark for each index of a route: 1 a head buffer, 2 a trunk buffer, 3 both, 0 neither.
use Rattle.std.specs.Prelude.{◌≡◌, ℕ, ◌<◌, ◌≤◌, Bool, ◌||◌, List, length, ◌==◌, slice_index}
use Rattle.net.specs.declared.records.record.Record.{Record}

abbrev pub has_head : ℕ → Bool
has_head mark = mark == 1 || mark == 3

abbrev pub has_trunk : ℕ → Bool
has_trunk mark = mark == 2 || mark == 3

abbrev pub mark_at : List ℕ → ℕ → ℕ
mark_at ms i = slice_index ms i

-- there is a head buffer towards index i, a trunk buffer at it
abbrev pub head_at : List ℕ → ℕ → Bool
head_at ms i = has_head (mark_at ms i)

abbrev pub trunk_at : List ℕ → ℕ → Bool
trunk_at ms i = has_trunk (mark_at ms i)

pub record Plan (rs : List Record) (ms : List ℕ) : Type 0 where
  pub each : length ms ≡ length rs
  pub known : (i : ℕ) → i < length rs → mark_at ms i ≤ 3
  -- index 0 has mark 0
  pub driver : mark_at ms 0 ≡ 0
