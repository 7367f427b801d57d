-- The reserve's proofs that its meaning is sound and settled. They stand here because an implementation hands them over in its code.
use Rattle.std.specs.Prelude.{◌≡◌, ℕ, zero, suc, List, [], ◌∷◌, map, slice_index, refl}
use Rattle.std.proofs.Common.{ap, ◌∙◌, arith}
use Rattle.std.proofs.lemmas.List.{length-map}
use Rattle.stock.specs.Meaning.{Meaning, Sound}
use Rattle.layer.specs.Soundness.{lowered_sound}
use Rattle.reserve.specs.Reserved.{left, reserved}

pub capacity_left : (percent : ℕ) (capacities : List ℕ) (place : ℕ) → slice_index (map (left percent) capacities) place ≡ left percent (slice_index capacities place)
capacity_left percent [] place = omega arith
capacity_left percent (x ∷ capacities) zero = refl
capacity_left percent (x ∷ capacities) (suc place) = capacity_left percent capacities place

pub reserved_sound : (percent : ℕ) (m : Meaning) → Sound m → Sound (reserved percent m)
reserved_sound percent m =
    lowered_sound (map (left percent) m.capacities) m (length-map m.capacities (left percent))
    (λ place. omega (arith, capacity_left percent m.capacities place))

pub reserved_settled : {p q : ℕ} {capacities others : List ℕ} → p ≡ q → capacities ≡ others → map (left p) capacities ≡ map (left q) others
reserved_settled {q = q} {capacities = capacities} e h = ap (λ percent. map (left percent) capacities) e ∙ ap (map (left q)) h
