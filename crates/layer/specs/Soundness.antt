-- That a layer which tells no larger capacities is sound. It stands here because a layer hands it over in its code.
use Rattle.std.specs.Prelude.{◌≡◌, ℕ, ◌≤◌, List, length, slice_index}
use Rattle.std.proofs.Common.{sym, ◌∙◌, arith}
use Rattle.stock.specs.Meaning.{Meaning, Sound, count, capacity}
use Rattle.layer.specs.Lowered.{telling}

pub lowered_sound : (capacities : List ℕ) (m : Meaning) → length capacities ≡ count m → ((place : ℕ) → slice_index capacities place ≤ capacity m place) → Sound m → Sound (telling capacities m)
lowered_sound capacities m e h s = record {
  as_many_uses = s.as_many_uses ∙ sym e;
  few_places = omega (arith, s.few_places);
  small_capacities = λ place. omega (arith, h place, s.small_capacities place);
  small_uses = s.small_uses;
}
