-- The laws of a cost kind, and those that a strict kind keeps beside them. `at_most x y` is the comparison: x is at
-- most y. Two values that are each at most the other tie; no law makes them equal.
use Rattle.std.specs.Prelude.{◌≡◌, Bool, true, false, ◌⊎◌}

pub record CostLaws {C : Type 0} (nothing : C) (plus : C → C → C) (at_most : C → C → Bool) : Type 0 where
  pub total : (x y : C) → (at_most x y ≡ true) ⊎ (at_most y x ≡ true)
  pub transitive : (x y z : C) → at_most x y ≡ true → at_most y z ≡ true → at_most x z ≡ true
  pub associative : (x y z : C) → plus (plus x y) z ≡ plus x (plus y z)
  pub commutative : (x y : C) → plus x y ≡ plus y x
  pub neutral : (x : C) → plus nothing x ≡ x
  pub monotone : (x y z : C) → at_most x y ≡ true → at_most (plus x z) (plus y z) ≡ true

-- A value is at the ceiling where the ceiling is at most it. x lies below y where y is not at most x.
pub record StrictLaws {C : Type 0} (plus : C → C → C) (at_most : C → C → Bool) (ceiling : C) : Type 0 where
  pub highest : (x : C) → at_most x ceiling ≡ true
  pub full : (x z : C) → at_most ceiling x ≡ true → at_most ceiling (plus x z) ≡ true
  pub strict : (x y z : C) → at_most y x ≡ false → (at_most (plus y z) (plus x z) ≡ false) ⊎ (at_most ceiling (plus y z) ≡ true)

-- What is put into a work cell is read back unchanged.
abbrev pub ReadsBack : {C V : Type 0} → (C → V) → (V → C) → Type 0
ReadsBack {C} stored held = (x : C) → held (stored x) ≡ x
