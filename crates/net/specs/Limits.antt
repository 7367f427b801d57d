-- Which limits there are, and what making one answers.
use Rattle.std.specs.Prelude.{ℕ, cond, ◌||◌, List, [], ◌∷◌, Ok, Err, Result, nat_lt}
use Rattle.net.specs.declared.limit.Limit.{Limit}
use Rattle.net.specs.declared.limit.LimitFault.{LimitFault}
use Rattle.net.specs.declared.limit.LimitFault.TheVariants.{Outside}
use Rattle.net.specs.Largest.{largest_limit}

-- the number and the value of each refusal
abbrev pub told : LimitFault → List ℕ
told (Outside n) = 6 ∷ n ∷ []

abbrev pub limit_refusal : ℕ → List ℕ
limit_refusal n = cond (nat_lt n 1 || nat_lt largest_limit n) (6 ∷ n ∷ []) []

-- the figure of the limit that is made: a limit is nothing but this
abbrev pub limited : ℕ → Result ℕ LimitFault
limited n = cond (nat_lt n 1 || nat_lt largest_limit n) (Err (Outside n)) (Ok n)

abbrev pub figure_of : Result Limit LimitFault → Result ℕ LimitFault
figure_of (Ok l) = Ok l.value
figure_of (Err f) = Err f
