-- The indices of a route, the children of an index, and sums over them.
use Rattle.std.specs.Prelude.{ℕ, zero, suc, ◌+◌, Bool, cond, List, [], ◌∷◌, length}
use Rattle.net.specs.declared.records.record.Record.{Record}
use Rattle.net.specs.Routes.{is_child}

-- the indices below n, the last first
abbrev pub indices : ℕ → List ℕ
indices zero = []
indices (suc n) = n ∷ indices n

-- those that pass a test
abbrev pub kept : (ℕ → Bool) → List ℕ → List ℕ
kept q [] = []
kept q (k ∷ ks) = cond (q k) (k ∷ kept q ks) (kept q ks)

abbrev pub children : List Record → ℕ → List ℕ
children rs i = kept (is_child rs i) (indices (length rs))

abbrev pub sum_over : List ℕ → (ℕ → ℕ) → ℕ
sum_over [] f = 0
sum_over (k ∷ ks) f = f k + sum_over ks f
