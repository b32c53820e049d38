-- `neighbours::table::fill_table` meets its contract.
use Rattle.neighbours.specs.Tables.{RowsTo}
use Rattle.neighbours.proofs.table.fill_table.Given as goal

abbrev pub invariant-loop-i : goal.invariant-loop-i
invariant-loop-i l = RowsTo l.day l.k l.i l.table
