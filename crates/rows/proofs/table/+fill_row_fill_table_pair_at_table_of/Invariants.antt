use Prim.Native.Nat.{◌+◌, ◌*◌, ◌≤◌}
use lib.ListN.{length}
use Rattle.rows.specs.Rows.{listed_at, Lists, read_at}
use Rattle.rows.proofs.Filling.{Filling, Tabling}
use Rattle.patterns.specs.Search.{size}
use Rattle.rows.proofs.table.+fill_row_fill_table_pair_at_table_of.Given as goal

abbrev pub decreases-fill_row : goal.decreases-fill_row
decreases-fill_row l = 4 * (size (read_at l.b.now l.p) + size (listed_at l.b.now l.room.now l.ys.at)) + 1

abbrev pub decreases-fill_table : goal.decreases-fill_table
decreases-fill_table l = 4 * (size (listed_at l.b.now l.room.now l.xs.at) + size (listed_at l.b.now l.room.now l.ys.at)) + 2

abbrev pub decreases-pair_at : goal.decreases-pair_at
decreases-pair_at l = 4 * (size (read_at l.b.now l.p) + size (read_at l.b.now l.q))

abbrev pub decreases-table_of : goal.decreases-table_of
decreases-table_of l = 4 * (size (read_at l.b.now l.p) + size (read_at l.b.now l.q)) + 3

abbrev pub invariant-fill_row-loop-j : goal.invariant-fill_row-loop-j
invariant-fill_row-loop-j l = Filling l.b l.initial.room l.room l.p l.ys.count l.row l.j l.diagonal l.right (listed_at l.b l.initial.room l.ys.at)

abbrev pub invariant-fill_table-loop-i : goal.invariant-fill_table-loop-i
invariant-fill_table-loop-i l = Lists l.b l.initial.room l.xs.at l.xs.count l.ys.at l.ys.count l.row × (l.row + 2 * l.ys.count ≤ length l.initial.room) × Tabling l.b l.initial.room l.room l.xs.count l.ys.count l.row l.i l.beneath l.side (listed_at l.b l.initial.room l.xs.at) (listed_at l.b l.initial.room l.ys.at)
