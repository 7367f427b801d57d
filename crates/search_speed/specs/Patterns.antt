-- The strip and the comb: the tile and the parent of each record, on a grid of 64 columns.
use Rattle.std.specs.Prelude.{ℕ, ◌+◌, ◌-◌, ◌*◌, ◌/◌, ◌%◌, true, cond, ◌==◌}
use Rattle.net.specs.declared.records.record.Record.{Record}

-- the column of index k of the strip: to the right in each even row, back to the left in each odd one
abbrev pub strip_column : ℕ → ℕ
strip_column k = cond (k / 64 % 2 == 0) (k % 64) (63 - k % 64)

-- index k of the strip stands in row k / 64 and hangs from the index before it
abbrev pub strip_record : ℕ → Record
strip_record k = record { tile = k / 64 * 64 + strip_column k; parent = k - 1; sink = true }

-- Index k of the comb stands in column k / 4, the first of each four on the spine and the others below it. On the
-- spine it hangs from the tile of the spine before it, four indices back, and on a tooth from the index before it.
abbrev pub comb_record : ℕ → Record
comb_record k = record { tile = k % 4 * 64 + k / 4; parent = k - cond (k % 4 == 0) 4 1; sink = true }
