-- A table stays small where a small number is written.
use Rattle.std.proofs.Common.{◌≡◌, ℕ, zero, suc, ◌≤◌, List, [], ◌∷◌, get_or, set, replicate, refl}

pub small_set : (table : List ℕ) (bound i v : ℕ) → ((place : ℕ) → get_or table place 0 ≤ bound) → v ≤ bound → (place : ℕ) → get_or (set table i v) place 0 ≤ bound
small_set [] bound i v h k place = h place
small_set (x ∷ table) bound zero v h k zero = k
small_set (x ∷ table) bound zero v h k (suc place) = h (suc place)
small_set (x ∷ table) bound (suc i) v h k zero = h zero
small_set (x ∷ table) bound (suc i) v h k (suc place) = small_set table bound i v (λ p. h (suc p)) k place

pub none_at : (n place : ℕ) → ◌≡◌ {A = ℕ} (get_or (replicate n 0) place 0) 0
none_at zero place = refl
none_at (suc n) zero = refl
none_at (suc n) (suc place) = none_at n place
