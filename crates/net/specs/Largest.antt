-- The largest length limit.
use Rattle.std.specs.Prelude.{ℕ}

abbrev pub largest_limit : ℕ
largest_limit = 16
