-- Numbers up to a ceiling keep the laws: the capped sum those of a strict kind, the larger those of a cost kind.
use mathlib.Core.Path.{◌≡◌, refl, sym, ◌∙◌}
use mathlib.Core.HLevel.{is_prop→PathP}
use mathlib.Core.Bool.{Bool, true, false}
use mathlib.Core.Logic.{◌⊎◌, inl, inr, ⊎_elim}
use Prim.Native.Nat.{ℕ, ◌+◌, ◌≤◌, ◌<◌, min, max}
use native.Mathlib.Bridge.{le_prop}
use native.Mathlib.Omega.{arith}
use lib.Dec.{leb}
use borrow.Author.Tests.{leb-true, leb-false, le-leb, lt-leb}
use Rattle.laws.specs.Laws.{CostLaws, StrictLaws}
use Rattle.laws.specs.Amounts.{NumbersTo, amount, amount_at_most, capped_sum, larger}

le_or_lt : (m n : ℕ) → (m ≤ n) ⊎ (n < m)
le_or_lt m n = elim (leb m n) as (λ b. leb m n ≡ b → (m ≤ n) ⊎ (n < m)) [ true ↦ (λ e. inl (leb-true m n e)) | false ↦ (λ e. inr (leb-false m n e)) ] refl

module _ {ceiling : ℕ} {C : Type 0} (numbers : NumbersTo ceiling C) where
  abbrev val : C → ℕ
  val x = numbers.value x

  abbrev of : ℕ → C
  of n = amount numbers n

  abbrev at_most : C → C → Bool
  at_most = amount_at_most numbers

  abbrev plus : C → C → C
  plus = capped_sum numbers

  abbrev worse : C → C → C
  worse = larger numbers

  -- equal numbers are equal values
  pub same : (x y : C) → val x ≡ val y → x ≡ y
  same x y e =
      sym (numbers.whole x) ∙ (λ i. numbers.make (e i) (is_prop→PathP (λ k. e k ≤ ceiling) (λ k. le_prop) (numbers.small x) (numbers.small y) i)) ∙ numbers.whole y

  pub value_of : (n : ℕ) → val (of n) ≡ min n ceiling
  value_of n = numbers.made (min n ceiling) _

  pub amount_reads_back : (x : C) → of (val x) ≡ x
  amount_reads_back x = same _ _ (omega (arith, value_of (val x), numbers.small x))

  total : (x y : C) → (at_most x y ≡ true) ⊎ (at_most y x ≡ true)
  total x y = ⊎_elim (λ h. inl (le-leb _ _ h)) (λ h. inr (le-leb _ _ (omega arith))) (le_or_lt (val x) (val y))

  transitive : (x y z : C) → at_most x y ≡ true → at_most y z ≡ true → at_most x z ≡ true
  transitive x y z p q = let a = leb-true _ _ p in let b = leb-true _ _ q in le-leb _ _ (omega arith)

  sum : (x y : C) → val (plus x y) ≡ min (val x + val y) ceiling
  sum x y = value_of (val x + val y)

  pub capped_laws : CostLaws (of 0) plus at_most
  capped_laws = record {
    total = total;
    transitive = transitive;
    associative = λ x y z. same _ _ (omega (arith, sum (plus x y) z, sum x (plus y z), sum x y, sum y z, numbers.small x, numbers.small y, numbers.small z));
    commutative = λ x y. same _ _ (omega (arith, sum x y, sum y x));
    neutral = λ x. same _ _ (omega (arith, sum (of 0) x, value_of 0, numbers.small x));
    monotone = λ x y z p. let a = leb-true _ _ p in le-leb _ _ (omega (arith, sum x z, sum y z));
  }

  strict : (x y z : C) → at_most y x ≡ false → (at_most (plus y z) (plus x z) ≡ false) ⊎ (at_most (of ceiling) (plus y z) ≡ true)
  strict x y z p =
      let a = leb-false _ _ p in
      ⊎_elim (λ h. inr (le-leb _ _ (omega (arith, sum y z, value_of ceiling)))) (λ h. inl (lt-leb _ _ (omega (arith, sum x z, sum y z)))) (le_or_lt ceiling (val y + val z))

  pub capped_strict : StrictLaws plus at_most (of ceiling)
  capped_strict = record {
    highest = λ x. le-leb _ _ (omega (arith, numbers.small x, value_of ceiling));
    full = λ x z p. let a = leb-true _ _ p in le-leb _ _ (omega (arith, sum x z, value_of ceiling));
    strict = strict;
  }

  worst : (x y : C) → val (worse x y) ≡ max (val x) (val y)
  worst x y = omega (arith, value_of (max (val x) (val y)), numbers.small x, numbers.small y)

  pub larger_laws : CostLaws (of 0) worse at_most
  larger_laws = record {
    total = total;
    transitive = transitive;
    associative = λ x y z. same _ _ (omega (arith, worst (worse x y) z, worst x (worse y z), worst x y, worst y z));
    commutative = λ x y. same _ _ (omega (arith, worst x y, worst y x));
    neutral = λ x. same _ _ (omega (arith, worst (of 0) x, value_of 0, numbers.small x));
    monotone = λ x y z p. let a = leb-true _ _ p in le-leb _ _ (omega (arith, worst x z, worst y z));
  }
