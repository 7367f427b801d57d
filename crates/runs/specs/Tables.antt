-- What every call but opening and sealing tests first: the tables and stocks have the sizes that they had at opening, and
-- each entered net's places hold what a call can have left there.
use Rattle.std.specs.Prelude.{◌≡◌, ℕ, ◌*◌, ◌<◌, ◌≤◌, Bool, false, not, ◌&&◌, ◌||◌, List, length, Option, ◌==◌, nat_le, nat_lt}
use Rattle.grid.specs.Tiles.{tile_count}
use Rattle.grid.specs.Boundaries.{boundary_count}
use Rattle.stock.specs.Meaning.{count}
use Rattle.net.specs.Largest.{largest_limit}
use Rattle.net.specs.Lowest.{or_else, lowest, unless, nothing_wrong, some_below}
use Rattle.net.specs.Proper.{Proper}
use Rattle.net.specs.Routes.{most_records, right_count, is_route}
use Rattle.length_rule.specs.Marks.{mark_at, Plan}
use Rattle.length_rule.specs.Refusals.{mark_fault}
use Rattle.floor_types.specs.declared.faults.TableFault.{TableFault}
use Rattle.floor_types.specs.declared.faults.TableFault.TheVariants.{Sizes, Net}
use Rattle.runs.specs.Worlds.{World, limit_of, count_of, is_planned, route_of, marks_of}

-- In the subject's terms.
pub record SizesKept (w : World) : Type 0 where
  pub sites : count w.sites ≡ tile_count w.grid
  pub wires : count w.wires ≡ boundary_count w.grid
  pub nets : length w.nets ≡ w.places
  pub records : length w.records ≡ most_records * w.places

pub record NetSound (w : World) (k : ℕ) : Type 0 where
  pub some_limit : 1 ≤ limit_of w k
  pub limit_fits : limit_of w k ≤ largest_limit
  pub some_records : 1 ≤ count_of w k
  pub records_fit : count_of w k ≤ most_records
  pub route : Proper w.grid (route_of w k)
  pub plan : Plan (route_of w k) (marks_of w k)
  -- a waiting net's marks are 0
  pub clear : is_planned w k ≡ false → (i : ℕ) → mark_at (marks_of w k) i ≡ 0

pub record TablesSound (w : World) : Type 0 where
  pub sizes : SizesKept w
  pub each : (k : ℕ) → k < w.entered → NetSound w k

-- In the order of the tests: sizes before nets, and the lowest net.
abbrev pub sizes_kept : World → Bool
sizes_kept w =
    (count w.sites == tile_count w.grid && count w.wires == boundary_count w.grid)
    && ((length w.nets) == w.places && (length w.records) == most_records * w.places)

abbrev pub limit_fits : ℕ → Bool
limit_fits n = nat_le 1 n && nat_le n largest_limit

abbrev pub marks_fit : List ℕ → Bool
marks_fit ms = nothing_wrong (lowest (mark_fault ms) (length ms))

abbrev pub some_mark : List ℕ → Bool
some_mark ms = some_below (λ i. nat_lt 0 (mark_at ms i)) (length ms)

abbrev pub net_sound : World → ℕ → Bool
net_sound w k =
    (limit_fits (limit_of w k) && right_count (count_of w k))
    && (is_route w.grid (route_of w k) && (marks_fit (marks_of w k) && (is_planned w k || not (some_mark (marks_of w k)))))

abbrev pub table_fault : World → Option TableFault
table_fault w = or_else (unless (sizes_kept w) (Sizes w.places)) (lowest (λ k. unless (net_sound w k) (Net k)) w.entered)
