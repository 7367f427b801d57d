-- Waiting shares, in parts of a unit.
use Rattle.std.specs.Prelude.{◌≡◌, ℕ, ◌+◌, ◌*◌, ◌/◌, ◌≤◌, List, [], ◌∷◌, length}

-- the unit in use: one part in so many
abbrev pub share_unit : ℕ
share_unit = 720720

-- what one waiting net of this limit adds
abbrev pub share_of : ℕ → ℕ → ℕ
share_of unit limit = unit / limit

-- the share of a tile, from the limits of the other waiting nets that have a tile there
abbrev pub waiting_share : ℕ → List ℕ → ℕ
waiting_share unit [] = 0
waiting_share unit (limit ∷ limits) = share_of unit limit + waiting_share unit limits

-- nothing is lost in the division by a limit that a net can have
abbrev pub Exact : ℕ → ℕ → ℕ → ℕ → Type 0
Exact largest unit limit share = 1 ≤ limit → limit ≤ largest → share * limit ≡ unit

-- with one more waiting net of this limit, the share of a tile grows by `share`, whichever nets wait there already
abbrev pub Adds : ℕ → ℕ → ℕ → Type 0
Adds unit limit share = (limits : List ℕ) → waiting_share unit (limit ∷ limits) ≡ share + waiting_share unit limits

-- no tile's share passes one unit for each net that waits there
abbrev pub AtMostOneEach : ℕ → Type 0
AtMostOneEach unit = (limits : List ℕ) → waiting_share unit limits ≤ length limits * unit
