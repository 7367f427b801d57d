-- Lists that are kept from the start of an array.
use Rattle.std.specs.Prelude.{ℕ, zero, suc, List, [], ◌∷◌, slice_index_or}

-- the first n entries of an array, each read by f, the last first
abbrev pub last_first : {X Y : Type 0} → (X → Y) → X → List X → ℕ → List Y
last_first f d xs zero = []
last_first f d xs (suc n) = f (slice_index_or xs n d) ∷ last_first f d xs n
