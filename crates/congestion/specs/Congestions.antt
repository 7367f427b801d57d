-- A congestion is a number up to the ceiling.
use Rattle.std.specs.Prelude.{refl, ℕ}
use Rattle.laws.specs.Amounts.{NumbersTo, amount}
use Rattle.congestion.specs.Price.{congestion_ceiling}
use Rattle.congestion.specs.declared.amount.Congestion.{Congestion}

abbrev pub congestions : NumbersTo congestion_ceiling Congestion
congestions = record {
  make = λ n h. record { value = n; ok = h };
  value = λ x. x.value;
  small = λ x. x.ok;
  made = λ n h. refl;
  whole = λ x. refl;
}

-- the congestion n, or the ceiling where n passes it
abbrev pub congestion : ℕ → Congestion
congestion n = amount congestions n
