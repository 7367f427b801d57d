-- A tree that grows by throws of dice. Each throw picks one of the tiles that stand and a side: if the tile on that side
-- is one of the grid and free, it joins the tree and hangs from the one that was picked.
use Rattle.std.specs.Prelude.{ℕ, zero, suc, ◌+◌, ◌*◌, ◌/◌, ◌%◌, Bool, true, cond, not, ◌&&◌, List, [], ◌∷◌, ◌++◌, length, take, replicate, Some, None, Option, ◌==◌, nat_lt, slice_set}
use Rattle.std.specs.List.{list_any}
use Rattle.grid.specs.declared.shape.Grid.{Grid}
use Rattle.grid.specs.Boundaries.{neighbours}
use Rattle.net.specs.declared.records.record.Record.{Record}
use Rattle.net.specs.Routes.{tile_of}

-- linear congruential dice of 32 bits; the upper half of the bits is used
abbrev pub next_dice : ℕ → ℕ
next_dice dice = (dice * 1664525 + 1013904223) % 4294967296

abbrev pub picked_index : (records dice : ℕ) → ℕ
picked_index records dice = dice / 65536 % records

abbrev pub picked_side : ℕ → ℕ
picked_side dice = dice / 16777216 % 4

-- the step from a tile to the one on its left, on its right, above it or below it, as tiles are numbered in 64 columns
abbrev pub step_to : ℕ → ℕ
step_to side = cond (side == 0) 4095 (cond (side == 1) 1 (cond (side == 2) 4032 64))

-- numbers go round at the 4,096 tiles of the largest grid: a tile at an edge has there a number that is no neighbour's
abbrev pub tile_beside : ℕ → ℕ → ℕ
tile_beside tile side = (tile + step_to side) % 4096

-- the tile stands at one of the records
abbrev pub stands : List Record → ℕ → Bool
stands rs tile = list_any (λ r. r.tile == tile) rs

abbrev pub free_neighbour : Grid → List Record → ℕ → ℕ → Bool
free_neighbour g rs from tile = neighbours g from tile && not (stands rs tile)

-- tile t beside index p, if it may join
abbrev pub joins : Grid → List Record → ℕ → ℕ → Option Record
joins g rs p t = cond (free_neighbour g rs (tile_of rs p) t) (Some (record { tile = t; parent = p; sink = true })) None

-- the record that a throw adds to these
abbrev pub sprout : Grid → List Record → ℕ → Option Record
sprout g rs dice =
    cond (nat_lt 0 (length rs))
    (joins g rs (picked_index (length rs) dice) (tile_beside (tile_of rs (picked_index (length rs) dice)) (picked_side dice)))
    None

-- so many records stand in a table; where there is room, a throw may add one behind them
abbrev pub added : List Record → ℕ → Option Record → List Record
added rs count None = rs
added rs count (Some r) = slice_set rs count r

abbrev pub counted : ℕ → Option Record → ℕ
counted count None = count
counted count (Some r) = count + 1

abbrev pub records_after : Grid → List Record → ℕ → ℕ → List Record
records_after g rs count dice = cond (nat_lt count (length rs)) (added rs count (sprout g (take count rs) dice)) rs

abbrev pub count_after : Grid → List Record → ℕ → ℕ → ℕ
count_after g rs count dice = cond (nat_lt count (length rs)) (counted count (sprout g (take count rs) dice)) count

-- the dice as they lie, how many records stand, and the table that they stand in
pub record Growth : Type 0 where
  pub dice : ℕ
  pub count : ℕ
  pub records : List Record

abbrev pub throw : Grid → Growth → Growth
throw g t = record {
  dice = next_dice t.dice;
  count = count_after g t.records t.count (next_dice t.dice);
  records = records_after g t.records t.count (next_dice t.dice);
}

-- the driver stands in the middle of the largest grid
abbrev pub driver : Record
driver = record { tile = 2080; parent = 0; sink = true }

-- the tree after so many throws
unfoldable pub grown : Grid → ℕ → Growth
grown g zero = record { dice = 1; count = 1; records = replicate 256 driver }
grown g (suc n) = throw g (grown g n)

-- the records that stand in the table
abbrev pub standing : Growth → List Record
standing t = take t.count t.records

-- what a throw leaves of the records that stand: up to 256 of them it may add one behind them
abbrev pub one_more : List Record → Option Record → List Record
one_more rs None = rs
one_more rs (Some r) = rs ++ r ∷ []

abbrev pub standing_after : Grid → List Record → ℕ → List Record
standing_after g rs dice = cond (nat_lt (length rs) 256) (one_more rs (sprout g rs dice)) rs
