-- The closure's proofs that its meaning is sound and settled. They stand here because an implementation hands them over in its code.
use Rattle.std.specs.Prelude.{◌≡◌, ℕ, zero, suc, ◌≤◌, Bool, true, false, cond, List, [], ◌∷◌, length, slice_index, slice_index_or, refl}
use Rattle.std.proofs.Common.{ap, sym, ◌∙◌, subst, zero-le, arith}
use Rattle.stock.specs.Meaning.{Meaning, Sound, capacity}
use Rattle.layer.specs.Soundness.{lowered_sound}
use Rattle.closure.specs.Closed.{open_capacities, closing}

pub length_open : (marks : List Bool) (capacities : List ℕ) → length (open_capacities marks capacities) ≡ length capacities
length_open [] capacities = refl
length_open (closed ∷ marks) [] = refl
length_open (closed ∷ marks) (c ∷ capacities) = ap suc (length_open marks capacities)

or_none : (closed : Bool) → ◌≡◌ {A = ℕ} 0 (cond closed 0 0)
or_none true = refl
or_none false = refl

pub capacity_open : (marks : List Bool) (capacities : List ℕ) (place : ℕ) → slice_index (open_capacities marks capacities) place ≡ cond (slice_index_or marks place false) 0 (slice_index capacities place)
capacity_open [] capacities place = refl
capacity_open (closed ∷ marks) [] place = or_none (slice_index_or (closed ∷ marks) place false)
capacity_open (closed ∷ marks) (c ∷ capacities) zero = refl
capacity_open (closed ∷ marks) (c ∷ capacities) (suc place) = capacity_open marks capacities place

none_or_less : (closed : Bool) (c : ℕ) → cond closed 0 c ≤ c
none_or_less true c = zero-le
none_or_less false c = omega arith

pub closing_sound : (marks : List Bool) (m : Meaning) → Sound m → Sound (closing marks m)
closing_sound marks m =
    lowered_sound (open_capacities marks m.capacities) m (length_open marks m.capacities)
    (λ place. subst (λ n. n ≤ capacity m place) (sym (capacity_open marks m.capacities place)) (none_or_less (slice_index_or marks place false) (capacity m place)))

pub closing_settled : {marks others : List Bool} {capacities rest : List ℕ} → marks ≡ others → capacities ≡ rest → open_capacities marks capacities ≡ open_capacities others rest
closing_settled {others = others} {capacities = capacities} e h = ap (λ m. open_capacities m capacities) e ∙ ap (open_capacities others) h
