-- `rows::table::close_row` meets its contract.
use Rattle.rows.specs.Rows.{listed_at}
use Rattle.rows.proofs.Filling.{Closing}
use Rattle.rows.proofs.table.close_row.Given as goal

abbrev pub invariant-loop-j : goal.invariant-loop-j
invariant-loop-j l = Closing l.b l.initial.room l.room l.ys.count l.row l.j l.s l.t (listed_at l.b l.initial.room l.ys.at)
