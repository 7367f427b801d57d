-- What is known of the records of any route.
use Rattle.std.proofs.Common.{◌≡◌, ℕ, ◌+◌, ◌<◌, ◌≤◌, length, get_or, ap, arith}
use Rattle.net.specs.declared.records.Route.{Route}
use Rattle.net.specs.declared.records.record.Record.{Record}
use Rattle.net.specs.Routes.{no_record}
use Rattle.net.specs.Checked.{records_of}
use Rattle.net.specs.Proper.{Proper}
use Rattle.net.proofs.Properly.{proper_if}
use Rattle.best_plan.specs.Cheapest.{HangsTogether}
use Rattle.search_cells.proofs.Narrow.{searchable}

proper : (r : Route) → Proper r.grid (records_of r)
proper r = proper_if r.grid (records_of r) r.checked

pub few : (r : Route) → length (records_of r) ≤ 256
few r = (proper r).not_many

pub hangs : (r : Route) → HangsTogether (records_of r)
hangs r = let p = proper r in record { some = p.some; earlier = p.earlier }

-- the parent of the record of a turn has a place in any table of 256
pub parent_small : (route : Route) (n k : ℕ) (r : Record) → (k ≡ n + 1) × (k < length (records_of route)) × (r ≡ get_or (records_of route) k no_record) → r.parent < 256
parent_small route n k r t = omega (arith, few route, t.1, ap (λ r. r.parent) t.2, (searchable route).earlier k (omega (arith, t.0)) t.1)
