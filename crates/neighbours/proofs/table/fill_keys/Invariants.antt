-- `neighbours::table::fill_keys` meets its contract.
use Rattle.neighbours.specs.Tables.{KeysTo}
use Rattle.neighbours.proofs.table.fill_keys.Given as goal

abbrev pub invariant-loop-j : goal.invariant-loop-j
invariant-loop-j l = KeysTo l.day l.i l.j l.keys
