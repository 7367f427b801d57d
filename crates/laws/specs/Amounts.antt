-- Kinds whose values are the numbers up to a ceiling.
use Rattle.std.specs.Prelude.{◌≡◌, Bool, ℕ, ◌+◌, ◌≤◌, min, max, leb}
use Rattle.std.proofs.Math.Nat.{min-le_right}

-- the values of C are the numbers up to the ceiling, one for each
pub record NumbersTo (ceiling : ℕ) (C : Type 0) : Type 0 where
  pub make : (n : ℕ) → n ≤ ceiling → C
  pub value : C → ℕ
  pub small : (x : C) → value x ≤ ceiling
  pub made : (n : ℕ) (h : n ≤ ceiling) → value (make n h) ≡ n
  pub whole : (x : C) → make (value x) (small x) ≡ x

module _ {ceiling : ℕ} {C : Type 0} (numbers : NumbersTo ceiling C) where
  -- the number n, or the ceiling where n passes it
  abbrev pub amount : ℕ → C
  amount n = numbers.make (min n ceiling) (min-le_right n ceiling)

  abbrev pub amount_at_most : C → C → Bool
  amount_at_most x y = leb (numbers.value x) (numbers.value y)

  -- the sum that stops at the ceiling
  abbrev pub capped_sum : C → C → C
  capped_sum x y = amount (numbers.value x + numbers.value y)

  -- the sum that is the larger of the two
  abbrev pub larger : C → C → C
  larger x y = amount (max (numbers.value x) (numbers.value y))
