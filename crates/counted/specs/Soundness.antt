-- The counted stock's proof that its meaning is sound. It stands here because an implementation hands it over in its code.
use Rattle.std.proofs.Common.{sym, ◌∙◌, zero-le, arith}
use Rattle.std.specs.Prelude.{ℕ, zero, suc, ◌≤◌, List, [], ◌∷◌, map, take, slice_index}
use Rattle.std.proofs.lemmas.List.{length-map, length-take}
use Rattle.stock.specs.Meaning.{Sound, most, most_places}
use Rattle.counted.specs.declared.place.Place.{Place}
use Rattle.counted.specs.Table.{of_table}

-- a figure that no place has above the most, nor has a list of places
small : (figure : Place → ℕ) → ((p : Place) → figure p ≤ most) → (places : List Place) (i : ℕ) → slice_index (map figure places) i ≤ most
small figure h [] i = zero-le
small figure h (x ∷ places) zero = h x
small figure h (x ∷ places) (suc i) = small figure h places i

pub table_sound : (size : ℕ) (table : List Place) → size ≤ most_places → Sound (of_table size table)
table_sound size table h = record {
  as_many_uses = length-map (take size table) (λ p. p.used) ∙ sym (length-map (take size table) (λ p. p.capacity));
  few_places = omega (arith, length-map (take size table) (λ p. p.capacity), length-take size table);
  small_capacities = small (λ p. p.capacity) (λ p. p.fits.0) (take size table);
  small_uses = small (λ p. p.used) (λ p. p.fits.1) (take size table);
}
