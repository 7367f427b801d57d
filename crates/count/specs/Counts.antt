-- A count is a number up to the ceiling.
use Rattle.std.specs.Prelude.{refl, ℕ}
use Rattle.laws.specs.Amounts.{NumbersTo, amount}
use Rattle.count.specs.Price.{count_ceiling}
use Rattle.count.specs.declared.amount.Count.{Count}

abbrev pub counts : NumbersTo count_ceiling Count
counts = record {
  make = λ n h. record { value = n; ok = h };
  value = λ x. x.value;
  small = λ x. x.ok;
  made = λ n h. refl;
  whole = λ x. refl;
}

-- the count n, or the ceiling where n passes it
abbrev pub count : ℕ → Count
count n = amount counts n
