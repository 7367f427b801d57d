-- How many searches may be asked for, and how many were made in each second.
use Rattle.std.specs.Prelude.{ℕ, ◌*◌, ◌/◌, max, cond, ◌&&◌, Some, None, Option, nat_le}

-- one search to a million
abbrev pub allowed : ℕ → Option ℕ
allowed times = cond (nat_le 1 times && nat_le times 1000000) (Some times) None

-- rounded down, with no time at all taken for one nanosecond
abbrev pub per_second : ℕ → ℕ → ℕ
per_second times nanoseconds = times * 1000000000 / max nanoseconds 1
