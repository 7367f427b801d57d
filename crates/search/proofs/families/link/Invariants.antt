use Rattle.std.proofs.Common.{◌≡◌, ℕ, ◌+◌, ◌<◌, length, get_or}
use Rattle.net.specs.Checked.{records_of}
use Rattle.search_cells.specs.Families.{members_at, children_before, rank_of}
use Rattle.search.proofs.families.link.Given as goal

abbrev pub invariant-loop-k : goal.invariant-loop-k
invariant-loop-k l =
    let rs = records_of l.route in
    (length l.families ≡ 256) × (length l.ranks ≡ 256)
    × ((i : ℕ) → i < length rs → members_at l.families i ≡ children_before rs (length l.yielded + 1) i)
    × ((j : ℕ) → j < length l.yielded + 1 → get_or l.ranks j 0 ≡ rank_of rs j)
