-- The gates of a plan: what each drives, and where it stands.
use Rattle.std.specs.Prelude.{ℕ, ◌+◌, Bool, true, false, cond, List, [], ◌∷◌, ◌++◌, length, Some, None, Option, ◌==◌}
use Rattle.net.specs.declared.records.record.Record.{Record}
use Rattle.net.specs.Routes.{parent_of}
use Rattle.length_rule.specs.declared.Gate.{Gate}
use Rattle.length_rule.specs.declared.Gates.{Gates}
use Rattle.length_rule.specs.Children.{indices, sum_over}
use Rattle.length_rule.specs.Marks.{has_head, has_trunk, mark_at}
use Rattle.length_rule.specs.Lengths.{hanging, entering}

-- a gate that drives so much and stands in the tile of this index
abbrev pub gate : ℕ → ℕ → Gate
gate drives stands = record { drives = drives; stands = stands }

abbrev pub put_if : {A : Type 0} → Bool → A → List A
put_if true a = a ∷ []
put_if false a = []

-- The buffers that a mark sets at index i, where these lengths hang there and enter it: a head buffer stands in the
-- parent's tile and drives 1 + what enters i; a trunk buffer stands in i's own tile and drives what hangs there.
abbrev pub buffers : (mark parent i hangs enters : ℕ) → List Gate
buffers mark parent i hangs enters = put_if (has_head mark) (gate (1 + enters) parent) ++ put_if (has_trunk mark) (gate hangs i)

-- all gates of index i: the driver is the gate of index 0, and drives what hangs there
abbrev pub gates : (mark parent i hangs enters : ℕ) → List Gate
gates mark parent i hangs enters = put_if (i == 0) (gate hangs i) ++ buffers mark parent i hangs enters

abbrev pub buffers_at : List Record → List ℕ → ℕ → List Gate
buffers_at rs ms i = buffers (mark_at ms i) (parent_of rs i) i (hanging rs ms i) (entering rs ms i)

abbrev pub gates_at : List Record → List ℕ → ℕ → List Gate
gates_at rs ms i = gates (mark_at ms i) (parent_of rs i) i (hanging rs ms i) (entering rs ms i)

-- how many of these stand in the tile of index i
abbrev pub standing_at : ℕ → List Gate → ℕ
standing_at i [] = 0
standing_at i (g ∷ gs) = cond (g.stands == i) 1 0 + standing_at i gs

-- how many buffers the tile of index i needs
abbrev pub need : List Record → List ℕ → ℕ → ℕ
need rs ms i = sum_over (indices (length rs)) (λ k. standing_at i (buffers_at rs ms k))

-- a gate that may be there
abbrev pub there : Option Gate → List Gate
there (Some g) = g ∷ []
there None = []

-- the gates that a value of the program holds: the driver, then a head gate before a trunk gate
abbrev pub listed : Gates → List Gate
listed g = there g.driver ++ (there g.head ++ there g.trunk)
