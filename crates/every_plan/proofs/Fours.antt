-- The powers of four by which a code is read.
use Rattle.std.proofs.Common.{ℕ, ◌^◌, ◌<◌, ◌≤◌, lt_of_le_of_lt, arith, lit<}
use native.Mathlib.Nat.{pow-le-pow_right}

pub fours_fit : (n : ℕ) → n ≤ 5 → 4 ^ n < 2 ^ 64
fours_fit n few = lt_of_le_of_lt (pow-le-pow_right (lit< tt) few) (lit< tt)

pub fours_some : (n : ℕ) → 0 < 4 ^ n
fours_some n =
    let least : 4 ^ 0 ≤ 4 ^ n = pow-le-pow_right {n = 4} (lit< tt) {i = 0} {j = n} (omega arith) in
    omega arith
