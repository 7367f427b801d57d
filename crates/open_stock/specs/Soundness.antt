-- The open stock's proof that its meaning is sound. It stands here because an implementation hands it over in its code.
use Rattle.std.specs.Prelude.{◌≡◌, ℕ, zero, suc, ◌≤◌, List, [], ◌∷◌, length, take, replicate, slice_index}
use Rattle.std.proofs.Common.{zero-le, arith, length-take}
use Rattle.std.proofs.lemmas.List.{length-replicate}
use Rattle.stock.specs.Meaning.{Sound, most, most_places}
use Rattle.open_stock.specs.Wide.{wide}

-- a list of one small number is small
pub small_replicate : (n v place : ℕ) → v ≤ most → slice_index (replicate n v) place ≤ most
small_replicate zero v place h = zero-le
small_replicate (suc n) v zero h = h
small_replicate (suc n) v (suc place) h = small_replicate n v place h

small_front : (n : ℕ) (table : List ℕ) → ((place : ℕ) → slice_index table place ≤ most) → (place : ℕ) → slice_index (take n table) place ≤ most
small_front zero table h place = zero-le
small_front (suc n) [] h place = zero-le
small_front (suc n) (x ∷ table) h zero = h 0
small_front (suc n) (x ∷ table) h (suc place) = small_front n table (λ p. h (suc p)) place

pub wide_sound : (places : ℕ) (table : List ℕ) → places ≤ most_places → length table ≡ most_places → ((place : ℕ) → slice_index table place ≤ most) → Sound (wide places table)
wide_sound places table few each small = record {
  as_many_uses = omega (arith, length-take places table, length-replicate places most);
  few_places = omega (arith, length-replicate places most);
  small_capacities = λ place. small_replicate places most place (omega arith);
  small_uses = small_front places table small;
}
